-- Each symbol of types, parameters and declarations is read exactly.
use Rattle.std.proofs.Common.{◌≡◌, ℕ, pred, Bool, true, false, ◌||◌, ◌&&◌, [], ◌∷◌, ◌++◌, None, ◌⊎◌, inl, inr, refl}
use Rattle.cc_lexer.specs.declared.token.TokenKind.TheVariants as k
use Rattle.cc_lexer.specs.declared.token.Keyword.TheVariants.{Int, Sync, Void, Global}
use Rattle.cc_lexer.specs.declared.token.Mark.TheVariants as m
use Rattle.cc_tree.specs.declared.expressions.Expr.{Expr}
use Rattle.cc_tree.specs.declared.statements.Base.TheVariants as base
use Rattle.cc_tree.specs.declared.statements.Start.TheVariants as start
use Rattle.cc_tree.specs.declared.statements.Stmt.{Stmt}
use Rattle.cc_grammar.specs.declared.parts.Name.{Name}
use Rattle.cc_grammar.specs.declared.parts.Pointer.{Pointer}
use Rattle.cc_grammar.specs.declared.parts.Spec.{Spec}
use Rattle.cc_grammar.specs.declared.parts.Slot.{Slot}
use Rattle.cc_grammar.specs.Lexeme.{Lexemes}
use Rattle.cc_grammar.specs.Kinds.{Kinds, kinds, code, heads, tail_of, are_apart}
use Rattle.cc_grammar.specs.Symbol.{Symbol, ◌>>=◌, ◌>>◌, ◌or◌}
use Rattle.cc_grammar.specs.Symbol as y
use Rattle.cc_grammar.specs.Nodes.{spec_of, pointer, slot_of, declared}
use Rattle.cc_grammar.specs.Reading.{Reader, at_mark, at_word, at_name}
use Rattle.cc_grammar.specs.Expressions as ge
use Rattle.cc_grammar.specs.Declarations as g
use Rattle.cc_grammar.specs.ReadExpressions as re
use Rattle.cc_grammar.specs.ReadExpressions.{goes_expr}
use Rattle.cc_grammar.specs.ReadDeclarations as r
use Rattle.cc_grammar.specs.ReadDeclarations.{first_words, first_spec, first_var, goes_var, begins_decl}
use Rattle.cc_grammar.proofs.Sets.{Begins, begins_apart}
use Rattle.cc_grammar.proofs.Rules.{Reads, word, mark, name, pure, seq, either, many, kept, or_else, has_word, nested}
use Rattle.cc_grammar.proofs.Rules as rules
use Rattle.cc_grammar.proofs.Same.{Same, same, ◌then◌, back, same_or, under, factor, spread, swap, regroup, nest, unit, flagged, by_same}
use Rattle.cc_grammar.proofs.Follows.{Follows, MayBeName, follows_or, follows_same, follows_seq, follows_other, follows_name}
use Rattle.cc_grammar.proofs.ExpressionLaws.{inner_expr, inner_unary, expr}
use Rattle.cc_grammar.proofs.ExpressionLaws as expressions

-- ---- types

pub spec : {n : ℕ} → Reads n r.spec r.spec g.spec first_spec [] false
unfolding r.spec r.int_spec r.sync_spec r.void_spec r.named_spec g.spec
spec = either (kept _ (word Int)) (either (seq (word Sync) (λ line. seq (word Int) (λ _. pure _) refl) refl) (either (kept _ (word Void)) (kept _ name) refl) refl) refl

star_same : Same g.star (y.mark m.Star >> ((y.word Global >> (y.has_word Sync >>= (λ once. y.pure (pointer true once))))
    or ((y.word Sync >> (y.has_word Global >>= (λ remote. y.pure (pointer remote true)))) or y.pure (pointer false false))))
unfolding g.star
star_same =
    let whole : Bool → Symbol Pointer = λ remote. y.has_word Sync >>= (λ once. y.pure (pointer remote once)) in
    let first = y.word Global >> whole true in
    let second = y.word Sync >> y.pure (pointer false true) in
    let both = y.word Sync >> (y.word Global >> y.pure (pointer true true)) in
    let bare = y.pure (pointer false false) in
    factor (y.mark m.Star) (λ _. y.has_word Global >>= whole) (λ _. both) then under (y.mark m.Star) (λ _.
    same_or (flagged Global whole (λ b a. inl (inl (inl (inl refl))))) (same both)
    then regroup first (whole false) both
    then same_or (same first) (
    same_or (flagged Sync (λ once. y.pure (pointer false once)) (λ b a. refl)) (same both)
    then regroup second bare both
    then same_or (same second) (swap bare both)
    then back (regroup second both bare)
    then same_or (factor (y.word Sync) _ _ then under (y.word Sync) (λ _. swap _ _ then back (flagged Global (λ remote. y.pure (pointer remote true)) (λ b a. refl)))) (same bare)
    ))

star : {n : ℕ} → Reads n r.star r.star g.star (at_mark m.Star) (kinds (k.Word Sync ∷ k.Word Global ∷ [])) false
unfolding r.star r.global_pointer r.sync_pointer
star =
    by_same star_same (rules.declared _ _ (seq (mark m.Star) (λ _.
    either (seq (word Global) (λ _. seq (has_word Sync) (λ once. pure _) refl) refl)
    (either (seq (word Sync) (λ _. seq (has_word Global) (λ remote. pure _) refl) refl) (pure _) refl) refl) refl) refl refl)

pub maybe_star : {n : ℕ} → Reads n r.maybe_star r.maybe_star g.maybe_star (at_mark m.Star) (kinds (k.Word Sync ∷ k.Word Global ∷ k.Mark m.Star ∷ [])) true
unfolding r.maybe_star g.maybe_star
maybe_star = or_else _ star

-- ---- parameters

param : {n : ℕ} → Reads n r.param r.param g.param first_spec [] false
unfolding r.param g.param
param = seq spec (λ b. seq maybe_star (λ p. seq name (λ t. pure _) refl) refl) refl

pub params : (n : ℕ) → Reads n (r.params (pred n)) (r.params n) (g.params n) (at_mark m.OpenParen) [] false
unfolding r.params g.params re.listed re.commas re.after_comma
params n =
    nested n (k.Mark m.OpenParen) (λ _ _. seq (or_else _ (seq param (λ x. seq (many (seq (mark m.Comma) (λ _. param) refl) refl) (λ xs. pure _) refl) refl)) (λ xs. seq (mark m.CloseParen) (λ _. pure _) refl) refl)

-- ---- expressions within so many levels

pub args_at : (n : ℕ) → Reads n (re.args_at (pred n)) (re.args_at n) (ge.args_at n) (at_mark m.OpenParen) [] false
args_at n = expressions.args n _ _ _ _ _ _ (inner_expr n) (inner_unary n)

pub maybe_bracketed_at : (n : ℕ) → Reads n (re.maybe_bracketed_at (pred n)) (re.maybe_bracketed_at n) (y.opt (ge.bracketed_at n)) (at_mark m.OpenBracket) (at_mark m.OpenBracket) true
maybe_bracketed_at n = expressions.maybe_bracketed n _ _ _ _ _ _ (inner_expr n) (inner_unary n)

-- ---- declarations

pub slot : (n : ℕ) → Reads n (r.slot (pred n)) (r.slot n) (g.slot n) first_var (at_mark m.OpenBracket) false
unfolding r.slot g.slot
slot n = rules.declared _ _ (seq maybe_star (λ p. seq name (λ t. seq (maybe_bracketed_at n) (λ length. pure _) refl) refl) refl) refl refl

-- what begins with [ Star ] NAME
abbrev pub from_star : {A : Type 0} → (Pointer → Name → Symbol A) → Symbol A
from_star f = g.maybe_star >>= (λ p. y.name >>= (λ t. f p t))

pub joined_two : {A : Type 0} (f h : Pointer → Name → Symbol A) → Same (from_star f or from_star h) (from_star (λ p t. f p t or h p t))
joined_two f h = factor g.maybe_star _ _ then under g.maybe_star (λ p. factor y.name (f p) (h p))

-- a slot and what is made of it
pub slot_then : {A : Type 0} (n : ℕ) (u : Slot → Symbol A) → ((x : Slot) (a : Lexemes) → (u x).front a a)
    → Same (g.slot n >>= u) (from_star (λ p t. y.opt (ge.bracketed_at n) >>= (λ length. u (slot_of p t length))))
unfolding g.slot
slot_then n u none =
    nest g.maybe_star _ u then under g.maybe_star (λ p. nest y.name _ u then under y.name (λ t. nest (y.opt (ge.bracketed_at n)) _ u then under (y.opt (ge.bracketed_at n)) (λ length. unit _ u (none _))))

module _ (n : ℕ) (b : Spec) where
  abbrev plain : Pointer → Name → Symbol Stmt
  plain p t = y.opt (ge.bracketed_at n) >>= (λ length. y.pure (declared b (slot_of p t length) start.Nothing))

  abbrev valued : Pointer → Name → Symbol Stmt
  valued p t = y.mark m.Assign >> (ge.expr n >>= (λ x. y.pure (declared b (slot_of p t None) (start.Value x))))

  abbrev built : Pointer → Name → Symbol Stmt
  built p t = ge.args_at n >>= (λ xs. y.pure (declared b (slot_of p t None) (start.Args xs)))

  var_same : Same (g.var n b) (from_star (λ p t. valued p t or (built p t or plain p t)))
  unfolding g.var
  var_same =
      same_or (slot_then n (λ x. y.pure (declared b x start.Nothing)) (λ x a. refl)) (same (from_star valued or from_star built))
      then swap (from_star plain) (from_star valued or from_star built)
      then regroup (from_star valued) (from_star built) (from_star plain)
      then same_or (same (from_star valued)) (joined_two built plain)
      then joined_two valued (λ p t. built p t or plain p t)

  pub var : Reads n (r.var (pred n) b) (r.var n b) (g.var n b) first_var (at_mark m.OpenBracket ++ goes_var) false
  unfolding r.var r.var_end r.valued r.built r.plain_var
  var =
      by_same var_same (rules.declared _ _ (seq maybe_star (λ p. seq name (λ t.
      either (seq (mark m.Assign) (λ _. kept _ (expr n)) refl) (either (kept _ (args_at n)) (seq (maybe_bracketed_at n) (λ length. pure _) refl) refl) refl) refl) refl) refl refl)

pub decl : (n : ℕ) → Reads n (r.decl (pred n)) (r.decl n) (g.decl n) first_spec (at_mark m.Comma ++ at_mark m.OpenBracket ++ goes_var) false
unfolding r.decl re.commas re.after_comma g.decl
decl n = rules.declared _ _ (seq spec (λ b. seq (var n b) (λ x. seq (many (seq (mark m.Comma) (λ _. var n b) refl) refl) (λ xs. pure _) refl) refl) refl) refl refl

-- ---- what follows a name with which a declaration begins

spec_same : {A : Type 0} (u : Spec → Symbol A) → ((b : Spec) (a : Lexemes) → (u b).front a a)
    → Same (g.spec >>= u) (((y.word Int >>= (λ line. y.pure (spec_of base.Int line))) >>= u)
    or (((y.word Sync >>= (λ line. y.word Int >> y.pure (spec_of base.SyncInt line))) >>= u)
    or (((y.word Void >>= (λ line. y.pure (spec_of base.Void line))) >>= u) or (y.name >>= (λ t. u (spec_of (base.Named t.text) t.line))))))
unfolding g.spec
spec_same u none =
    spread _ _ u then same_or (same _) (spread _ _ u then same_or (same _) (spread _ _ u then same_or (same _) (nest y.name _ u then under y.name (λ t. unit _ u (none _)))))

-- what begins with a type
pub follows_spec : {A : Type 0} {ks : Kinds} (u : Spec → Symbol A) → ((b : Spec) (a : Lexemes) → (u b).front a a) → ((b : Spec) (m c : Lexemes) → (u b).front m c → (m ≡ c) ⊎ Begins ks m) → ((b : Spec) (m c : Lexemes) (x : A) → (u b).spells m c x → Begins ks m)
    → Follows ks (g.spec >>= u)
follows_spec u none h k =
    follows_same (spec_same u none) (
    follows_or (follows_seq (follows_other (kept {n = 0} _ (word Int)) refl))
    (follows_or (follows_seq (follows_other (seq {n = 0} (word Sync) (λ line. seq (word Int) (λ _. pure _) refl) refl) refl))
    (follows_or (follows_seq (follows_other (kept {n = 0} _ (word Void)) refl)) (follows_name _ (λ t. h _) (λ t. k _))))
    )

-- the same, where what follows the type is read exactly
pub follows_typed : {A : Type 0} {n : ℕ} {o p : Spec → Reader A} {u : Spec → Symbol A} {f goes : Kinds} → ((b : Spec) → Reads n (o b) (p b) (u b) f goes false) → Follows f (g.spec >>= u)
follows_typed {u = u} l = follows_spec u (λ b. (l b).fronts.none) (λ b m c h. (l b).exact.begins m c h) (λ b m c x h. (l b).exact.some refl m c x h)

pub spec_name : MayBeName g.spec
unfolding g.spec
spec_name t c h = inr (inr (inr (inl (inr (t, refl, h)))))

pub decl_follows : (n : ℕ) → Follows first_var (g.decl n)
unfolding g.decl
decl_follows n = follows_typed (λ b. rules.declared first_var (at_mark m.Comma ++ at_mark m.OpenBracket ++ goes_var) (seq (var n b) (λ x. seq (many (seq (mark m.Comma) (λ _. var n b) refl) refl) (λ xs. pure _) refl) refl) refl refl)

pub decl_name : (n : ℕ) → MayBeName (g.decl n)
unfolding g.decl
decl_name n t c h = inl (spec_name t c h)

-- ---- the test for a declaration

pub words_decl : (a : Lexemes) → Begins first_words a → begins_decl a ≡ true
words_decl a h = rw h refl

pub second_decl : (a : Lexemes) → heads at_name a ≡ true → Begins first_var (tail_of a) → begins_decl a ≡ true
second_decl a h i = go (heads first_words a)
  where
    go : (b : Bool) → (b || (heads at_name a && heads first_var (tail_of a))) ≡ true
    go true = refl
    go false = rw (h, i) refl

-- what begins otherwise, and goes on otherwise after a name, begins no declaration
pub first_no_decl : (f : Kinds) (a : Lexemes) → are_apart f first_words ≡ true → Begins f a → heads at_name a ≡ false → begins_decl a ≡ false
first_no_decl f a h i j = let v : heads first_words a ≡ false = begins_apart f first_words a h i in rw (v, j) refl

pub second_no_decl : (f ks : Kinds) (a : Lexemes) → are_apart f first_words ≡ true → are_apart ks first_var ≡ true → Begins f a → heads at_name a ≡ true → Begins ks (tail_of a) → begins_decl a ≡ false
second_no_decl f ks a h i j k l =
    let v : heads first_words a ≡ false = begins_apart f first_words a h j in
    let w : heads first_var (tail_of a) ≡ false = begins_apart ks first_var (tail_of a) i l in
    rw (v, k, w) refl
