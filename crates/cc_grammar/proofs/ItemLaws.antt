-- Each symbol of members and items is read exactly.
use Rattle.std.proofs.Common.{◌≡◌, ℕ, pred, Bool, true, false, ◌&&◌, List, [], ◌∷◌, ◌++◌, inl, inr, refl}
use Rattle.cc_lexer.specs.declared.token.TokenKind.TheVariants as k
use Rattle.cc_lexer.specs.declared.token.Keyword.TheVariants.{Const, Int, Global, Class, Struct, Public, Private, Atomic}
use Rattle.cc_lexer.specs.declared.token.Mark.TheVariants as m
use Rattle.cc_tree.specs.declared.declarations.Function.{Function}
use Rattle.cc_tree.specs.declared.declarations.Member.{Member}
use Rattle.cc_tree.specs.declared.declarations.Member.TheVariants as member_node
use Rattle.cc_grammar.specs.declared.parts.Name.{Name}
use Rattle.cc_grammar.specs.declared.parts.Pointer.{Pointer}
use Rattle.cc_grammar.specs.declared.parts.Spec.{Spec}
use Rattle.cc_grammar.specs.declared.parts.Slot.{Slot}
use Rattle.cc_grammar.specs.Lexeme.{Lexeme, Lexemes}
use Rattle.cc_grammar.specs.Kinds.{Kinds, kinds, heads, tail_of, are_apart}
use Rattle.cc_grammar.specs.Symbol.{Symbol, ◌>>=◌, ◌>>◌, ◌or◌}
use Rattle.cc_grammar.specs.Symbol as y
use Rattle.cc_grammar.specs.Nodes.{joined, function_of, field_of, build_of, slot_of}
use Rattle.cc_grammar.specs.Reading.{Reader, at_mark, at_word, at_name}
use Rattle.cc_grammar.specs.Reading as rd
use Rattle.cc_grammar.specs.Expressions as ge
use Rattle.cc_grammar.specs.Declarations as gd
use Rattle.cc_grammar.specs.Statements as gs
use Rattle.cc_grammar.specs.Items as g
use Rattle.cc_grammar.specs.Program as gp
use Rattle.cc_grammar.specs.ReadExpressions as re
use Rattle.cc_grammar.specs.ReadDeclarations as rdd
use Rattle.cc_grammar.specs.ReadDeclarations.{first_spec, first_var}
use Rattle.cc_grammar.specs.ReadItems as r
use Rattle.cc_grammar.specs.ReadItems.{first_label, first_member, first_class, first_item, begins_build}
use Rattle.cc_grammar.proofs.Sets.{Begins, begins_apart}
use Rattle.cc_grammar.proofs.Levels.{IsPositive}
use Rattle.cc_grammar.proofs.Rules.{Reads, word, mark, name, pure, seq, either, many, kept, declared, nested}
use Rattle.cc_grammar.proofs.Same.{Same, same, ◌then◌, back, same_or, under, factor, spread, swap, regroup, forward, nest, unit, closing, closing_in, by_same}
use Rattle.cc_grammar.proofs.Follows.{Follows, MayBeName, follows_or, follows_seq, follows_name, follows_same, by_second}
use Rattle.cc_grammar.proofs.ExpressionLaws.{expr}
use Rattle.cc_grammar.proofs.DeclarationLaws.{spec, maybe_star, params, maybe_bracketed_at, slot, slot_then, from_star, joined_two, follows_typed, spec_name}
use Rattle.cc_grammar.proofs.StatementLaws.{block_at, int_name, expr_semicolon}

-- ---- functions

module _ (n : ℕ) where
  abbrev function_end : Spec → Pointer → Name → Symbol Function
  function_end b p t = gd.params n >>= (λ xs. gs.block_at n >>= (λ body. y.pure (function_of b p t xs body)))

  abbrev method_end : Spec → Pointer → Name → Symbol (List Member)
  method_end b p t = function_end b p t >>= (λ f. y.pure (member_node.Func f ∷ []))

  abbrev field : Spec → Symbol Member
  field b = gd.slot n >>= (λ x. y.pure (field_of b x))

  abbrev more_fields : Spec → Slot → Symbol (List Member)
  more_fields b x = y.many (y.mark m.Comma >> field b) >>= (λ xs. y.mark m.Semicolon >> y.pure (field_of b x ∷ xs))

  abbrev fields_end : Spec → Pointer → Name → Symbol (List Member)
  fields_end b p t = y.opt (ge.bracketed_at n) >>= (λ length. more_fields b (slot_of p t length))

  end_reads : (b : Spec) (p : Pointer) (t : Name) → Reads n (r.function_end (pred n) b p t) (r.function_end n b p t) (function_end b p t) (at_mark m.OpenParen) [] false
  unfolding r.function_end
  end_reads b p t = seq (params n) (λ xs. seq (block_at n) (λ body. pure _) refl) refl

  function : Reads n (r.function (pred n)) (r.function n) (g.function n) first_spec [] false
  unfolding r.function g.function
  function = seq spec (λ b. seq maybe_star (λ p. seq name (λ t. end_reads b p t) refl) refl) refl

  -- ---- members

  label : Reads n r.label r.label g.label first_label [] false
  unfolding r.label r.label_word g.label
  label = seq (either (word Public) (word Private) refl) (λ _. seq (mark m.Colon) (λ _. pure _) refl) refl

  build : Reads n (r.build (pred n)) (r.build n) (g.build n) at_name [] false
  unfolding r.build g.build
  build = seq name (λ t. seq (params n) (λ xs. seq (block_at n) (λ body. pure _) refl) refl) refl

  atomic_method : Reads n (r.atomic_method (pred n)) (r.atomic_method n) (g.atomic_method n) (at_word Atomic) [] false
  unfolding r.atomic_method g.atomic_method
  atomic_method = seq (word Atomic) (λ line. kept _ function) refl

  -- a function and a line of fields begin alike
  typed_same : Same (g.method n or g.fields n) (gd.spec >>= (λ b. from_star (λ p t. method_end b p t or fields_end b p t)))
  unfolding g.method g.function g.fields
  typed_same =
      same_or
      (nest gd.spec _ _ then under gd.spec (λ b. nest gd.maybe_star _ _ then under gd.maybe_star (λ p. nest y.name _ _)))
      (under gd.spec (λ b. slot_then n (more_fields b) (λ x a. inl (a, [], refl, inl (inl refl)))))
      then factor gd.spec _ _
      then under gd.spec (λ b. joined_two (method_end b) (fields_end b))

  -- what follows the type of a member
  abbrev typed : Spec → Symbol (List Member)
  typed b = from_star (λ p t. method_end b p t or fields_end b p t)

  abbrev typed_reader : ℕ → Spec → Reader (List Member)
  typed_reader n b = rd.◌>>=◌ rdd.maybe_star (λ p. rd.◌>>=◌ rd.name (λ t. rd.choose (at_mark m.OpenParen) (r.method_end n b p t) (r.fields_end n b p t)))

  typed_reads : (b : Spec) → Reads n (typed_reader (pred n) b) (typed_reader n b) (typed b) first_var [] false
  unfolding r.method_end r.fields_end re.commas re.after_comma r.field
  typed_reads b =
      seq maybe_star (λ p. seq name (λ t.
      either (kept _ (end_reads b p t))
      (seq (maybe_bracketed_at n) (λ length. seq (many (seq (mark m.Comma) (λ _. kept _ (slot n)) refl) refl) (λ xs. seq (mark m.Semicolon) (λ _. pure _) refl) refl) refl) refl) refl) refl

  typed_member : Reads n (r.typed_member (pred n)) (r.typed_member n) (g.method n or g.fields n) first_spec [] false
  unfolding r.typed_member
  typed_member = by_same typed_same (seq spec typed_reads refl)

  typed_follows : Follows first_var (g.method n or g.fields n)
  typed_follows = follows_same typed_same (follows_typed typed_reads)

  typed_name : MayBeName (g.method n or g.fields n)
  unfolding g.method g.function
  typed_name t c h = inl (inl (inl (spec_name t c h)))

  build_follows : Follows (at_mark m.OpenParen) (g.build n)
  unfolding g.build
  build_follows =
      let l = λ (t : Name). seq (params n) (λ xs. seq (block_at n) (λ body. pure (build_of t xs body ∷ [])) refl) refl in
      follows_name _ (λ t a c h. (l t).exact.begins a c h) (λ t a c x h. (l t).exact.some refl a c x h)

  build_name : MayBeName (g.build n)
  unfolding g.build
  build_name t c h = inl (inr (t, refl, h))

  begins_none : (a : Lexemes) → Begins [] a → ⊥
  begins_none [] h = cc
  begins_none (t ∷ a) h = cc

  second_build : (a : Lexemes) → heads at_name a ≡ true → Begins (at_mark m.OpenParen) (tail_of a) → begins_build a ≡ true
  second_build a h i = rw (h, i) refl

  first_no_build : (a : Lexemes) → heads at_name a ≡ false → begins_build a ≡ false
  first_no_build a h = rw h refl

  second_no_build : (a : Lexemes) → heads at_name a ≡ true → Begins first_var (tail_of a) → begins_build a ≡ false
  second_no_build a h i = let v : heads (at_mark m.OpenParen) (tail_of a) ≡ false = begins_apart first_var (at_mark m.OpenParen) (tail_of a) refl i in rw (h, v) refl

  plain_member : Reads n (r.plain_member (pred n)) (r.plain_member n) (g.build n or (g.method n or g.fields n)) first_spec [] false
  unfolding r.plain_member
  plain_member =
      declared _ _ (by_second [] begins_build build typed_member build_follows typed_follows build_name typed_name
      (λ a h. absurd (begins_none a h)) second_build (λ a _ h. first_no_build a h) (λ a _ h i. second_no_build a h i)) refl refl

  member_same : Same (g.member n) (g.label or (g.atomic_method n or (g.build n or (g.method n or g.fields n))))
  unfolding g.member
  member_same =
      same_or (same g.label) (same_or (same (g.build n)) (regroup (g.atomic_method n) (g.method n) (g.fields n)) then forward (g.build n) (g.atomic_method n) (g.method n or g.fields n))

  member : Reads n (r.member (pred n)) (r.member n) (g.member n) first_member [] false
  unfolding r.member
  member = by_same member_same (declared _ _ (either label (either atomic_method plain_member refl) refl) refl refl)

members : (n : ℕ) → Reads n (r.members (pred n)) (r.members n) (g.members n) (at_mark m.OpenBrace) [] false
unfolding r.members r.member_list g.members g.member_list
members n = nested n (k.Mark m.OpenBrace) (λ _ _. seq (seq (many (member (pred n)) refl) (λ xss. pure (joined xss)) refl) (λ xs. seq (mark m.CloseBrace) (λ _. pure xs) refl) refl)

-- ---- items

constant : (n : ℕ) → Reads n (r.constant (pred n)) (r.constant n) (g.constant n) (at_word Const) [] false
unfolding r.constant g.constant
constant n =
    by_same (
    under (y.word Const) (λ line.
    closing_in (y.word Int) y.name (y.mark m.Assign) _ (λ t a. inl ((expr n).fronts.none a)) then under _ (λ t.
    closing (ge.expr n) (y.mark m.Semicolon) _ (λ x a. refl)))
    ) (seq (word Const) (λ line. seq int_name (λ t. seq (expr_semicolon n) (λ x. pure _) refl) refl) refl)

class_word : {n : ℕ} → Reads n r.class_word r.class_word g.class_word (kinds (k.Word Class ∷ k.Word Struct ∷ [])) [] false
unfolding r.class_word g.class_word
class_word = either (word Class) (word Struct) refl

class : (n : ℕ) → Reads n (r.class (pred n)) (r.class n) (g.class n) first_class [] false
unfolding r.class r.class_head r.global_head r.local_head g.class g.class_head
class n =
    declared _ _ (seq (either (seq (word Global) (λ line. kept _ class_word) refl) (kept _ class_word) refl) (λ h.
    seq name (λ t. seq (members n) (λ xs. seq (mark m.Semicolon) (λ _. pure _) refl) refl) refl) refl) refl refl

item : (n : ℕ) → Reads n (r.item (pred n)) (r.item n) (g.item n) first_item [] false
unfolding r.item r.function_item g.item
item n = declared _ _ (either (constant n) (either (class n) (kept _ (function n)) refl) refl) refl refl

pub program : (n : ℕ) → Reads n (r.program (pred n)) (r.program n) (gp.program n) first_item first_item true
unfolding r.program r.items gp.program
program n = declared _ _ (seq (many (item n) refl) (λ xs. pure _) refl) refl refl
