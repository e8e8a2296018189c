use Rattle.std.proofs.Common.{false, map, sym, ◌∙◌, ap, subst, string_bytes, ◌++◌, ◌∷◌, [], ℕ, List, ◌≡◌}
use Rattle.std.specs.List.{list_any}
use Rattle.std.specs.Str.{bytes_eq}
use Rattle.nil_pres.proofs.Naming.{next_absent, next_put}
use Rattle.nil_pres.proofs.names.copy_names.Goals as goal

pub put_name-requires : goal.put_name-requires
put_name-requires c =
    subst (λ (bs : List ℕ). list_any (bytes_eq bs) (map string_bytes c.loop-name.copy.keys) ≡ false) (sym c.as_str.ensures.value)
    (next_absent c.args.names.now.keys c.loop-name.copy.keys c.as_slice-name-items.result.now c.loop-name.name-index c.name-item.result c.requires c.loop-name.invariant c.as_slice-name-items.ensures.keys c.loop-name-test.true c.name-item.is)

pub loop-name-preserved : goal.loop-name-preserved
loop-name-preserved c =
    c.in_ok-put_name.ensures.ok
    ∙ (ap (λ (bs : List ℕ). map string_bytes c.loop-name.copy.keys ++ bs ∷ []) c.as_str.ensures.value
    ∙ next_put c.args.names.now.keys c.loop-name.copy.keys c.as_slice-name-items.result.now c.loop-name.name-index c.name-item.result c.requires c.loop-name.invariant c.as_slice-name-items.ensures.keys c.loop-name-test.true c.name-item.is)
