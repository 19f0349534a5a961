-- No two rules or limits have one number.
use Rattle.std.proofs.Common.{◌≡◌, ℕ, ◌==◌, if◌then◌else◌, refl, sym, ap, ◌∙◌}
use Rattle.cc_names.specs.Broken.{line_of, number_of}
use Rattle.cc_names.specs.declared.broken.Broken.{Broken}
use Rattle.cc_names.specs.declared.broken.Broken.TheVariants.{Rule, Limit}
use Rattle.cc_names.specs.declared.rule.StaticRule.TheVariants as r
use Rattle.cc_names.specs.declared.rule.StaticLimit.TheVariants as l

-- the one of a number, at a line
abbrev numbered : (number line : ℕ) → Broken
numbered n line =
    if n == 1 then Rule r.NoMain line else
    if n == 2 then Rule r.NameTwice line else
    if n == 3 then Limit l.Classes line else
    if n == 4 then Limit l.Functions line else
    if n == 5 then Limit l.Members line else
    if n == 6 then Limit l.Parameters line else
    if n == 7 then Rule r.BadMain line else
    if n == 8 then Rule r.LocalTwice line else
    if n == 9 then Rule r.UnknownClass line else
    if n == 10 then Rule r.UnknownName line else
    if n == 11 then Rule r.UnknownMember line else
    if n == 12 then Rule r.BadDeclared line else
    if n == 13 then Rule r.BadConst line else
    if n == 14 then Limit l.ArrayLength line else
    if n == 15 then Rule r.BadType line else
    if n == 16 then Rule r.NotPlace line else
    if n == 17 then Rule r.ArgCount line else
    if n == 18 then Rule r.NotFunction line else
    if n == 19 then Rule r.MemberAddress line else
    if n == 20 then Rule r.RemoteLocal line else
    if n == 21 then Rule r.ThisOutside line else
    if n == 22 then Rule r.MainCalled line else
    if n == 23 then Rule r.ReturnInBranch line else
    if n == 24 then Rule r.ReturnValue line else
    if n == 25 then Rule r.ParforHeader line else
    if n == 26 then Rule r.Constructor line else
    if n == 27 then Rule r.AtomicBody line else
    Rule r.LoopOutside line

its_number : (b : Broken) → numbered (number_of b) (line_of b) ≡ b
its_number (Rule r.NoMain line) = refl
its_number (Rule r.NameTwice line) = refl
its_number (Rule r.BadMain line) = refl
its_number (Rule r.LocalTwice line) = refl
its_number (Rule r.UnknownClass line) = refl
its_number (Rule r.UnknownName line) = refl
its_number (Rule r.UnknownMember line) = refl
its_number (Rule r.BadDeclared line) = refl
its_number (Rule r.BadConst line) = refl
its_number (Rule r.BadType line) = refl
its_number (Rule r.NotPlace line) = refl
its_number (Rule r.ArgCount line) = refl
its_number (Rule r.NotFunction line) = refl
its_number (Rule r.MemberAddress line) = refl
its_number (Rule r.RemoteLocal line) = refl
its_number (Rule r.ThisOutside line) = refl
its_number (Rule r.MainCalled line) = refl
its_number (Rule r.ReturnInBranch line) = refl
its_number (Rule r.ReturnValue line) = refl
its_number (Rule r.ParforHeader line) = refl
its_number (Rule r.Constructor line) = refl
its_number (Rule r.AtomicBody line) = refl
its_number (Rule r.LoopOutside line) = refl
its_number (Limit l.Classes line) = refl
its_number (Limit l.Functions line) = refl
its_number (Limit l.Members line) = refl
its_number (Limit l.Parameters line) = refl
its_number (Limit l.ArrayLength line) = refl

pub same_number : (a b : Broken) → line_of a ≡ line_of b → number_of a ≡ number_of b → a ≡ b
same_number a b line number =
    sym (its_number a) ∙ (ap (λ n. numbered n (line_of a)) number ∙ (ap (numbered (number_of b)) line ∙ its_number b))
