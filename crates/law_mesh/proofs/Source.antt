-- A move of a mesh is a step of the run, or nothing.
use Rattle.std.proofs.Common.{◌≡◌, ◌<◌, ℕ, ℤ, List, length, Option, Some, None, refl, sym, ◌∙◌, subst}
use Rattle.cc_code.specs.Code.{Code}
use Rattle.cc_code.specs.Settles.{Settles}
use Rattle.cc_core.specs.Config.{Config}
use Rattle.cc_core.specs.Core.{Program}
use Rattle.cc_core.specs.Numbers.{Numbers, numbers_step, first_numbers}
use Rattle.cc_core.specs.Source.{IsProgram}
use Rattle.numbered_runs.specs.Alike.{first_machine}
use Rattle.numbered_runs.proofs.Start.{run_begins as numbered_begins}
use Rattle.law_mesh.specs.Begins.{first_mesh}
use Rattle.law_mesh.proofs.Begins.{first_shown}
use Rattle.cc_follows.proofs.Program.{layout_settles}
use Rattle.global_ptr.specs.declared.ends.FaultKind.{FaultKind}
use Rattle.cc_ops.specs.declared.number.ThreadNo.{ThreadNo}
use Rattle.cc_core.specs.Names.{Name}
use Rattle.cc_core.specs.Steps as core
use Rattle.numbered_runs.proofs.Follow.{steps_follow}
use Rattle.numbered_runs.proofs.Posts.{posts_alike}
use Rattle.numbered_runs.specs.Alike.{DoesAlike}
use Rattle.numbered_runs.specs.Stands.{Stands, IsThread}
use Rattle.law_mesh.specs.Moves.{Moves, FaultsAt, Step}
use Rattle.law_mesh.specs.Shows.{IsShown, IsPosted}
use Rattle.law_mesh.specs.Source.{IsOfRun, GoesOnInRun}
use Rattle.law_mesh.specs.Spots.{Mesh, shown}
use Rattle.law_mesh.proofs.Moved.{move_shown, move_posted, fault_shown}

module _ (p : Program) (m : Mesh) (s : Config) (n : Numbers) (run : IsOfRun p m s n) where
  settles : (b : ℕ) → Settles m.code b
  settles = subst (λ (c : Code). (b : ℕ) → Settles c b) (sym run.stands.code) (layout_settles p run.stands.source)

  goes_on : (l : Option Step) (m' : Mesh) → IsPosted m.code run.threads l → IsShown m run.threads l m' → GoesOnInRun p s n l m'
  goes_on None m' posted h = record {
    config = s;
    numbers = n;
    is = (refl, refl);
    after = record { threads = h.threads'; shows = h.shows; stands = subst (λ w. Stands p w s n) h.follows run.stands };
  }
  goes_on (Some l) m' posted h =
      let alike = subst (DoesAlike p s n l.thread) h.follows (steps_follow p (shown m run.threads) s n run.stands l.thread) in
      record {
        config = alike.1;
        numbers = numbers_step p alike.0 s n;
        is = record {
          name = alike.0;
          thread = alike.2;
          steps = alike.3;
          posted = sym (posts_alike p (shown m run.threads) s n run.stands l.thread alike.0 alike.2) ∙ posted;
          numbers = refl;
        };
        after = record { threads = h.threads'; shows = h.shows; stands = alike.4 };
      }

  pub run_goes_on : (l : Option Step) (m' : Mesh) → Moves m l m' → GoesOnInRun p s n l m'
  run_goes_on l m' h = goes_on l m' (move_posted m run.threads run.shows l m' h) (move_shown m run.threads run.shows settles l m' h)

  pub run_faults : (t : ThreadNo) (kind : FaultKind) (line : ℕ) → FaultsAt m t kind line
      → (x : Name) × IsThread n t x × (core.step p x s ≡ core.Faults kind line)
  run_faults t kind line h =
      subst (DoesAlike p s n t) (fault_shown m run.threads run.shows t kind line h) (steps_follow p (shown m run.threads) s n run.stands t)

pub run_begins : (p : Program) → IsProgram p → p.main < length p.functions → (is : List ℤ) → IsOfRun p (first_mesh p is) (core.start p is) (first_numbers p is)
run_begins p source main is = record { threads = (first_machine p is).threads; shows = first_shown p is; stands = numbered_begins p source main is }
