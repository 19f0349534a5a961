-- What is said of a text by the calls that cut it, read it and check its tree.
use Rattle.std.proofs.Common.{◌≡◌, ◌≢◌, ℕ, List, [], refl, sym, ap, ◌∙◌, subst, Some, None, Ok, Err}
use Rattle.cc_names.specs.Broken.{Answers, least}
use Rattle.cc_names.specs.declared.broken.Broken.{Broken}
use Rattle.cc_names.specs.declared.broken.Broken.TheVariants.{Rule, Limit}
use Rattle.cc_names.specs.declared.broken.TypeFault.{TypeFault}
use Rattle.cc_names.specs.declared.broken.TypeFault.TheVariants as type
use Rattle.cc_tree.specs.declared.declarations.Program.{Program}
use Rattle.cc_types.specs.Program.{rules_broken}
use Rattle.ccpp_source.specs.declared.source.Refusal.{Refusal}
use Rattle.ccpp_source.specs.declared.source.Refusal.TheVariants.{Lex, Parse, Static, Memory}
use Rattle.ccpp_source.specs.Source.{IsProgramText, IsSource, IsNoSource, IsRefusedFor, type_refusal}

-- ---- texts of programs

-- a refused text is no source
pub no_source : (text : List ℕ) (w : Refusal) → IsRefusedFor text w → IsNoSource text
no_source text (Lex fault) f = λ p is. f.1 p is.is_text
no_source text (Parse fault line) f = λ p is. f.1 p is.is_text
no_source text (Static fault) f = f.1
no_source text Memory f = absurd f

-- ---- programs that break a rule

-- it is the only program of the text, and some rule is broken
broken_no_source : (text : List ℕ) (p : Program) (b : Broken) → ((q : Program) → IsProgramText text q → p ≡ q) → least (rules_broken p) ≡ Some b → IsNoSource text
broken_no_source text p b one broken q is =
    let none : rules_broken p ≡ [] = ap rules_broken (one q is.is_text) ∙ is.well_formed in
    let e : None ≡ Some b = sym (ap least none) ∙ broken in
    cc e

pub ill_formed : (text : List ℕ) (p : Program) → IsProgramText text p → ((q : Program) → IsProgramText text q → p ≡ q) → (w : TypeFault) → Answers {A = Program} (rules_broken p) p (Err w) → type_refusal w ≢ Memory → IsRefusedFor text (type_refusal w)
ill_formed text p t one (type.Rule rule line) broken m =
    (record { program = p; is_text = t; broken = broken }, broken_no_source text p (Rule rule line) one broken)
ill_formed text p t one (type.Limit which line) broken m =
    (record { program = p; is_text = t; broken = broken }, broken_no_source text p (Limit which line) one broken)
ill_formed text p t one type.Memory broken m = absurd (m refl)

-- ---- programs that break none

pub well_formed : (text : List ℕ) (p : Program) → IsProgramText text p → (c : Program) → Answers {A = Program} (rules_broken p) p (Ok c) → IsSource text c
well_formed text p t c answers = subst (IsSource text) (sym answers.1) (record { is_text = t; well_formed = answers.0 })
