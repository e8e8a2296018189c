-- No count of these ever rises.
use Rattle.std.proofs.Common.{◌⊎◌, inl, inr, [], arith, refl}
use Rattle.nil_io.specs.Causes.{Rose}
use Rattle.query_session.specs.Commands.{run, run_table, check, compile, trees, collect, example, load}
use Rattle.session_rows.proofs.sure.sure_session.Goals as goal

still : Rose 0 0 → ⊥
still h = omega (arith, h)

by_either : {A B C : Type 0} → A ⊎ B → (A → C) → (B → C) → C
by_either (inl a) f g = f a
by_either (inr b) f g = g b

pub returns-clause-run : goal.returns-clause-run
returns-clause-run g c = λ p name command is_file within compiles few.
    c.session.ensures.complete p record {
      command = run name;
      asks = command;
      smooth = (
        record {
          file = _;
          known = record { known = refl; within = within; shelf = still };
          is_file = is_file;
          compiles = compiles;
        },
        record { queries = _; known = refl; few = few; source = still },
      );
    } still

pub returns-clause-run_table : goal.returns-clause-run_table
returns-clause-run_table g c = λ p t pres table command is_file within says table_within holds few.
    c.session.ensures.complete p record {
      command = run_table pres table;
      asks = command;
      smooth = (
        record {
          file = _;
          text = _;
          t = t;
          known_file = record { known = refl; within = within; shelf = still };
          known_table = record { known = refl; within = table_within; shelf = still };
          is_file = is_file;
          says = says;
          holds = holds;
        },
        record { queries = _; known = refl; few = few; source = still },
      );
    } still

pub returns-clause-compiled : goal.returns-clause-compiled
returns-clause-compiled g c = λ p name command is_file within compiles.
    by_either command
    (λ asks. c.session.ensures.complete p record {
      command = check name;
      asks = asks;
      smooth = record {
        file = _;
        known = record { known = refl; within = within; shelf = still };
        is_file = is_file;
        compiles = compiles;
      };
    } still)
    (λ asks. c.session.ensures.complete p record {
      command = compile name;
      asks = asks;
      smooth = record {
        file = _;
        known = record { known = refl; within = within; shelf = still };
        is_file = is_file;
        compiles = compiles;
      };
    } still)

-- any presentation serves: nothing is asked of it
pub returns-clause-example : goal.returns-clause-example
returns-clause-example g c = λ kind size command within.
    c.session.ensures.complete (record { names = []; rights = [] }) record {
      command = example kind size;
      asks = command;
      smooth = within;
    } still

pub returns-clause-collect : goal.returns-clause-collect
returns-clause-collect g c = λ p name command is_file within few.
    c.session.ensures.complete p record {
      command = collect name;
      asks = command;
      smooth = (
        record {
          file = _;
          known = record { known = refl; within = within; shelf = still };
          is_file = is_file;
        },
        record { queries = _; known = refl; few = few; source = still },
      );
    } still

pub returns-clause-trees : goal.returns-clause-trees
returns-clause-trees g c = λ p pres name k command is_file within named fits.
    c.session.ensures.complete p record {
      command = trees pres name;
      asks = command;
      smooth = record {
        file = _;
        k = k;
        known = record { known = refl; within = within; shelf = still };
        is_file = is_file;
        named = named;
        fits = fits;
      };
    } still

pub returns-clause-load : goal.returns-clause-load
returns-clause-load g c = λ rows count seed command within compiles.
    c.session.ensures.complete (record { names = []; rights = [] }) record {
      command = load rows count seed;
      asks = command;
      smooth = record { within = within; compiles = compiles };
    } still
