-- The load program is a source whose `main` takes no ints.
use Rattle.std.proofs.Common.{◌≡◌, ◌≢◌, ℕ, ◌≤◌, refl, ap, ◌∙◌}
use Rattle.cc_tree.specs.declared.declarations.Program.{Program}
use Rattle.cc_types.specs.Program.{main_params}
use Rattle.ccpp_gen.specs.LoadSource.{load_source}
use Rattle.ccpp_source.specs.declared.source.Refusal.{Refusal}
use Rattle.ccpp_source.specs.declared.source.Refusal.TheVariants.{Lex, Parse, Static, Memory}
use Rattle.ccpp_source.specs.Source.{IsSource, IsRefusedFor}
use Rattle.ccpp_source.proofs.SourceLaws.{no_source}
use Rattle.load_is_a_program.proofs.Law.{load_is_source, one_program}

module _ (n : ℕ) (some : 1 ≤ n) (most : n ≤ 10000) where
  pub takes_none : (p : Program) → IsSource (load_source n) p → main_params p.items ≡ 0
  takes_none p is =
      let w = load_is_source n some most in
      ap (λ (q : Program). main_params q.items) (one_program (load_source n) p w.0 is.is_text w.1.is_text) ∙ w.2

  refused : (why : Refusal) → IsRefusedFor (load_source n) why → ⊥
  refused why for = let w = load_is_source n some most in no_source (load_source n) why for w.0 w.1

  pub wants_memory : (why : Refusal) → (why ≢ Memory → IsRefusedFor (load_source n) why) → why ≡ Memory
  wants_memory (Lex fault) for = absurd (refused (Lex fault) (for (λ e. cc e)))
  wants_memory (Parse fault line) for = absurd (refused (Parse fault line) (for (λ e. cc e)))
  wants_memory (Static fault) for = absurd (refused (Static fault) (for (λ e. cc e)))
  wants_memory Memory for = refl
