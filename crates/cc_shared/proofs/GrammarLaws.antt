-- The trees that tokens spell are proper.
use Rattle.std.proofs.Common.{◌≡◌, ℕ, zero, suc, ◌∙◌, sym, ap, subst, List, [], ◌∷◌, ◌++◌, Option, Some, None, ◌⊎◌, inl, inr}
use Rattle.std.specs.Prelude.{pred}
use Rattle.cc_grammar.specs.Lexeme.{Lexemes}
use Rattle.cc_grammar.specs.Symbol.{Symbol, Repeats, never}
use Rattle.cc_grammar.specs.Nodes.{stated, assigned, called, declared, joined, one, line_of, decl_of}
use Rattle.cc_grammar.specs.Declarations.{var, decl}
use Rattle.cc_grammar.specs.Statements.{simple as simple_rule, beginning as beginning_rule, maybe_beginning as maybe_beginning_rule, header as header_rule, counter as counter_rule, entry as entry_rule, entries as entries_rule, block as block_rule, block_stmt as block_stmt_rule, otherwise as otherwise_rule, choice as choice_rule, loop as loop_rule}
use Rattle.cc_grammar.specs.Statements.{for_loop as for_loop_rule, parallel as parallel_rule, parallel_for as parallel_for_rule, empty as empty_rule, plain as plain_rule, print as print_rule, spawned as spawned_rule, returned as returned_rule, jump as jump_rule, stmt_line as stmt_line_rule, stmt as stmt_rule, inner_stmt as inner_stmt_rule, block_at as block_at_rule}
use Rattle.cc_grammar.specs.Items.{function as function_of_items, label as label_of_items, build as build_of_items, atomic_method as atomic_method_of_items, method as method_of_items, fields as fields_of_items, member as member_of_items, member_list as member_list_of_items, members as members_of_items, constant as constant_of_items, class as class_of_items, item as item_of_items}
use Rattle.cc_grammar.specs.Program.{program, Spells}
use Rattle.cc_grammar.specs.declared.parts.Block.{Block}
use Rattle.cc_grammar.specs.declared.parts.Spec.{Spec}
use Rattle.cc_tree.specs.declared.declarations.Function.{Function}
use Rattle.cc_tree.specs.declared.declarations.Item.{Item}
use Rattle.cc_tree.specs.declared.declarations.Item.TheVariants as item
use Rattle.cc_tree.specs.declared.declarations.Member.{Member}
use Rattle.cc_tree.specs.declared.declarations.Member.TheVariants as member
use Rattle.cc_tree.specs.declared.declarations.Program.{Program}
use Rattle.cc_tree.specs.declared.statements.Stmt.{Stmt, out-roll-Stmt}
use Rattle.cc_tree.specs.declared.statements.StmtKind.{StmtKind, out-StmtKind, roll-StmtKind, out-roll-StmtKind}
use Rattle.cc_tree.specs.declared.statements.StmtKind.TheOpen.{StmtKind-F}
use Rattle.cc_tree.specs.declared.statements.StmtKind.TheVariants as k
use Rattle.cc_tree.specs.declared.statements.StmtKind.TheVariants.{rolls-Block, rolls-Empty, rolls-Declare, rolls-Assign, rolls-Call, rolls-Print, rolls-If, rolls-While, rolls-For, rolls-Break, rolls-Continue, rolls-Par, rolls-ParFor, rolls-Spawn, rolls-Return}
use Rattle.cc_shared.proofs.Proper.{Layer, layer, DeclaresNone, EachOf, IfSome, Sub, ProperParts, IsProper, AlwaysProper}

-- ---- what a symbol spells

abbrev Holds : {A : Type 0} → (A → Type 0) → (Lexemes → Lexemes → A → Type 0) → Type 0
Holds {A} P R = (a b : Lexemes) (x : A) → R a b x → P x

seq : {A B : Type 0} {P : A → Type 0} {Q : B → Type 0} {R : Lexemes → Lexemes → A → Type 0} {S : A → Lexemes → Lexemes → B → Type 0}
    → Holds P R → ((x : A) → P x → Holds Q (S x)) → Holds Q (λ a c y. (b : Lexemes) × (x : A) × R a b x × S x b c y)
seq f h a c y p = h p.1 (f a p.0 p.1 p.2) p.0 c y p.3

skip : {A B : Type 0} {Q : B → Type 0} (R : Lexemes → Lexemes → A → Type 0) {S : A → Lexemes → Lexemes → B → Type 0}
    → ((x : A) → Holds Q (S x)) → Holds Q (λ a c y. (b : Lexemes) × (x : A) × R a b x × S x b c y)
skip R h a c y p = h p.1 p.0 c y p.3

gives : {A : Type 0} (Q : A → Type 0) (x : A) → Q x → Holds Q (λ a b y. (a ≡ b) × (x ≡ y))
gives Q x q a b y p = subst Q p.1 q

choose : {A : Type 0} {P : A → Type 0} {R S : Lexemes → Lexemes → A → Type 0} → Holds P R → Holds P S → Holds P (λ a b x. R a b x ⊎ S a b x)
choose f h a b x p = elim p [ inl l ↦ f a b x l | inr r ↦ h a b x r ]

each : {A : Type 0} {P : A → Type 0} {R : Lexemes → Lexemes → A → Type 0} → Holds P R → Holds (EachOf P) (Repeats R)
each f a b [] p = tt
each f a b (x ∷ xs) p = (f a p.0 x p.1, each f p.0 b xs p.2)

maybe : {A : Type 0} {P : A → Type 0} {R : Lexemes → Lexemes → A → Type 0} → Holds P R
    → Holds (IfSome P) (λ a c y. ((b : Lexemes) × (x : A) × R a b x × ((b ≡ c) × (Some x ≡ y))) ⊎ ((a ≡ c) × (None ≡ y)))
maybe {P = P} f a c y p = elim p [ inl l ↦ subst (IfSome P) (l.3).1 (f a l.0 l.1 l.2) | inr r ↦ subst (IfSome P) r.1 tt ]

each_append : {A : Type 0} (P : A → Type 0) (xs ys : List A) → EachOf P xs → EachOf P ys → EachOf P (xs ++ ys)
each_append P [] ys p q = q
each_append P (x ∷ xs) ys p q = (p.0, each_append P xs ys p.1 q)

each_joined : {A : Type 0} (P : A → Type 0) (xss : List (List A)) → EachOf (EachOf P) xss → EachOf P (joined xss)
each_joined P [] p = tt
each_joined P (xs ∷ xss) p = each_append P xs (joined xss) p.0 (each_joined P xss p.1)

-- ---- nodes

layer_is : (kind : StmtKind) (w : Layer) (line : ℕ) → roll-StmtKind w ≡ kind → layer (stated kind line) ≡ w
layer_is kind w line is =
    ap (λ r. out-StmtKind r.kind) (out-roll-Stmt (record { kind = kind; line = line }))
    ∙ (ap out-StmtKind (sym is) ∙ out-roll-StmtKind w)

each_at : {A : Type 0} (P : ℕ → A → Type 0) (d : ℕ) (xs : List A) → EachOf (λ x. (n : ℕ) → P n x) xs → EachOf (P d) xs
each_at P d [] p = tt
each_at P d (x ∷ xs) p = (p.0 d, each_at P d xs p.1)

subs_at : (d : ℕ) (bs : List Stmt) → EachOf (Sub AlwaysProper) bs → EachOf (Sub (IsProper d)) bs
subs_at d [] p = tt
subs_at d (b ∷ bs) p = (((p.0).0, (p.0).1 d), subs_at d bs p.1)

some_at : (d : ℕ) (o : Option Stmt) → IfSome (Sub AlwaysProper) o → IfSome (Sub (IsProper d)) o
some_at d None p = tt
some_at d (Some b) p = (p.0, p.1 d)

parts_at : (d : ℕ) (w : Layer) → ProperParts AlwaysProper w → ProperParts (IsProper d) w
parts_at d (StmtKind-F.Block ss) p = each_at IsProper d ss p
parts_at d StmtKind-F.Empty p = tt
parts_at d (StmtKind-F.Declare x) p = tt
parts_at d (StmtKind-F.Assign target op e) p = tt
parts_at d (StmtKind-F.Call e) p = tt
parts_at d (StmtKind-F.Print xs) p = tt
parts_at d (StmtKind-F.If c first other) p = (((p.0).0, (p.0).1 d), some_at d other p.1)
parts_at d (StmtKind-F.While c b) p = (p.0, p.1 d)
parts_at d (StmtKind-F.For first c after b) p = (each_at IsProper d first p.0, some_at d after p.1, ((p.2).0, (p.2).1 d))
parts_at d StmtKind-F.Break p = tt
parts_at d StmtKind-F.Continue p = tt
parts_at d (StmtKind-F.Par bs) p = subs_at d bs p
parts_at d (StmtKind-F.ParFor name start c after b) p = (((p.0).0, (p.0).1 d), ((p.1).0, (p.1).1 d))
parts_at d (StmtKind-F.Spawn e) p = tt
parts_at d (StmtKind-F.Return e) p = tt

proper : (b : Stmt) (w : Layer) → layer b ≡ w → ProperParts AlwaysProper w → AlwaysProper b
proper b w is p zero = tt
proper b w is p (suc d) = subst (λ z. ProperParts (IsProper d) z) (sym is) (parts_at d w p)

sub : (kind : StmtKind) (w : Layer) (line : ℕ) → roll-StmtKind w ≡ kind → DeclaresNone w → ProperParts AlwaysProper w → Sub AlwaysProper (stated kind line)
sub kind w line is n p = let same = layer_is kind w line is in
    (subst DeclaresNone (sym same) n, proper (stated kind line) w same p)

-- ---- statements

simple_spelled : (n : ℕ) → Holds (Sub AlwaysProper) (simple_rule n).spells
unfolding simple_rule
simple_spelled n =
    choose (skip _ (λ p. skip _ (λ op. skip _ (λ x. gives _ (assigned p op x) (sub _ _ (line_of p) (rolls-Assign p op x) tt tt)))))
    (choose (skip _ (λ p. skip _ (λ c. gives _ (assigned p c.0 (one c.1)) (sub _ _ (line_of p) (rolls-Assign p c.0 (one c.1)) tt tt))))
    (choose (skip _ (λ c. skip _ (λ p. gives _ (stated (k.Assign p c.0 (one c.1)) c.1) (sub _ _ c.1 (rolls-Assign p c.0 (one c.1)) tt tt))))
    (skip _ (λ c. gives _ (called c) (sub _ _ (line_of c) (rolls-Call c) tt tt)))))

declared_spelled : (b : Spec) (slot : _) (start : _) → AlwaysProper (declared b slot start)
declared_spelled b slot start = proper _ _ (layer_is _ _ b.line (rolls-Declare (decl_of b slot start))) tt

var_spelled : (n : ℕ) (b : Spec) → Holds AlwaysProper (var n b).spells
unfolding var
var_spelled n b =
    choose (skip _ (λ x. gives _ _ (declared_spelled b x _)))
    (choose (skip _ (λ p. skip _ (λ t. skip _ (λ m. skip _ (λ x. gives _ _ (declared_spelled b _ _))))))
    (skip _ (λ p. skip _ (λ t. skip _ (λ xs. gives _ _ (declared_spelled b _ _))))))

decl_spelled : (n : ℕ) → Holds (EachOf AlwaysProper) (decl n).spells
unfolding decl
decl_spelled n = skip _ (λ b. seq (var_spelled n b) (λ x p. seq (each (skip {Q = AlwaysProper} _ (λ m. var_spelled n b))) (λ xs q. gives _ (x ∷ xs) (p, q))))

beginning_spelled : (n : ℕ) → Holds (EachOf AlwaysProper) (beginning_rule n).spells
unfolding beginning_rule
beginning_spelled n = choose (decl_spelled n) (seq (simple_spelled n) (λ x p. gives _ (x ∷ []) (p.1, tt)))

maybe_beginning_spelled : (n : ℕ) → Holds (EachOf AlwaysProper) (maybe_beginning_rule n).spells
unfolding maybe_beginning_rule
maybe_beginning_spelled n = choose (beginning_spelled n) (gives _ [] tt)

header_spelled : (n : ℕ) → Holds (λ h. EachOf AlwaysProper h.start × IfSome (Sub AlwaysProper) h.step) (header_rule n).spells
unfolding header_rule
header_spelled n = skip _ (λ o. seq (maybe_beginning_spelled (pred n)) (λ start p. skip _ (λ m. skip _ (λ t. skip _ (λ m.
    seq (maybe (simple_spelled (pred n))) (λ step q. skip _ (λ m. gives _ (record { start = start; test = t; step = step }) (p, q))))))))

counter_spelled : (n : ℕ) → Holds (λ c. Sub AlwaysProper c.step) (counter_rule n).spells
unfolding counter_rule
counter_spelled n = skip _ (λ o. skip _ (λ w. skip _ (λ t. skip _ (λ m. skip _ (λ start. skip _ (λ m. skip _ (λ test. skip _ (λ m.
    seq (simple_spelled (pred n)) (λ step q. skip _ (λ m. gives _ _ q))))))))))

module _ (n : ℕ) (stmt : Symbol Stmt) (whole : Holds (Sub AlwaysProper) stmt.spells) where
  entry_spelled : Holds (EachOf AlwaysProper) (entry_rule n stmt).spells
  unfolding entry_rule
  entry_spelled = choose (seq (decl_spelled (pred n)) (λ xs p. skip _ (λ m. gives _ xs p))) (seq whole (λ x p. gives _ (x ∷ []) (p.1, tt)))

  entries_spelled : Holds (EachOf AlwaysProper) (entries_rule n stmt).spells
  unfolding entries_rule
  entries_spelled = seq (each entry_spelled) (λ xss p. gives _ (joined xss) (each_joined AlwaysProper xss p))

  block_spelled : Holds (λ (b : Block). EachOf AlwaysProper b.body) (block_rule n stmt).spells
  unfolding block_rule
  block_spelled = skip _ (λ line. seq entries_spelled (λ xs p. skip _ (λ m. gives _ (record { body = xs; line = line }) p)))

  block_stmt_spelled : Holds (Sub AlwaysProper) (block_stmt_rule n stmt).spells
  unfolding block_stmt_rule
  block_stmt_spelled = seq block_spelled (λ b p. gives _ _ (sub _ _ b.line (rolls-Block b.body) tt p))

  otherwise_spelled : Holds (IfSome (Sub AlwaysProper)) (otherwise_rule n stmt).spells
  unfolding otherwise_rule
  otherwise_spelled = choose (skip _ (λ w. seq whole (λ x p. gives _ (Some x) p))) (λ a b x p. subst (IfSome (Sub AlwaysProper)) p.1 tt)

  choice_spelled : Holds (Sub AlwaysProper) (choice_rule n stmt).spells
  unfolding choice_rule
  choice_spelled = skip _ (λ line. skip _ (λ x. seq whole (λ first p. seq otherwise_spelled (λ other q.
      gives _ _ (sub _ _ line (rolls-If x first other) tt (p, q))))))

  loop_spelled : Holds (Sub AlwaysProper) (loop_rule n stmt).spells
  unfolding loop_rule
  loop_spelled = skip _ (λ line. skip _ (λ x. seq whole (λ body p. gives _ _ (sub _ _ line (rolls-While x body) tt p))))

  for_loop_spelled : Holds (Sub AlwaysProper) (for_loop_rule n stmt).spells
  unfolding for_loop_rule
  for_loop_spelled = skip _ (λ line. seq (header_spelled (pred n)) (λ h q. seq whole (λ body p.
      gives _ _ (sub _ _ line (rolls-For h.start h.test h.step body) tt (q.0, q.1, p)))))

  parallel_spelled : Holds (Sub AlwaysProper) (parallel_rule n stmt).spells
  unfolding parallel_rule
  parallel_spelled = skip _ (λ line. skip _ (λ o. seq (each whole) (λ xs p. skip _ (λ m. gives _ _ (sub _ _ line (rolls-Par xs) tt p)))))

  parallel_for_spelled : Holds (Sub AlwaysProper) (parallel_for_rule n stmt).spells
  unfolding parallel_for_rule
  parallel_for_spelled = skip _ (λ line. seq (counter_spelled (pred n)) (λ c q. seq whole (λ body p.
      gives _ _ (sub _ _ line (rolls-ParFor c.name c.start c.test c.step body) tt (q, p)))))

  empty_spelled : Holds (Sub AlwaysProper) empty_rule.spells
  unfolding empty_rule
  empty_spelled = skip _ (λ line. gives _ _ (sub _ _ line rolls-Empty tt tt))

  plain_spelled : Holds (Sub AlwaysProper) (plain_rule n).spells
  unfolding plain_rule
  plain_spelled = seq (simple_spelled n) (λ x p. skip _ (λ m. gives _ x p))

  print_spelled : Holds (Sub AlwaysProper) (print_rule n).spells
  unfolding print_rule
  print_spelled = skip _ (λ line. skip _ (λ x. skip _ (λ xs. skip _ (λ m. gives _ _ (sub _ _ line (rolls-Print (x ∷ xs)) tt tt)))))

  spawned_spelled : Holds (Sub AlwaysProper) (spawned_rule n).spells
  unfolding spawned_rule
  spawned_spelled = skip _ (λ line. skip _ (λ c. skip _ (λ m. gives _ _ (sub _ _ line (rolls-Spawn c) tt tt))))

  returned_spelled : Holds (Sub AlwaysProper) (returned_rule n).spells
  unfolding returned_rule
  returned_spelled = skip _ (λ line. skip _ (λ x. skip _ (λ m. gives _ _ (sub _ _ line (rolls-Return x) tt tt))))

  jump_spelled : Holds (Sub AlwaysProper) jump_rule.spells
  unfolding jump_rule
  jump_spelled = choose (skip _ (λ line. skip _ (λ m. gives _ _ (sub _ _ line rolls-Break tt tt))))
      (skip _ (λ line. skip _ (λ m. gives _ _ (sub _ _ line rolls-Continue tt tt))))

  stmt_line_spelled : Holds (Sub AlwaysProper) (stmt_line_rule n stmt).spells
  unfolding stmt_line_rule
  stmt_line_spelled = choose block_stmt_spelled (choose empty_spelled (choose plain_spelled (choose print_spelled (choose choice_spelled
      (choose loop_spelled (choose for_loop_spelled (choose parallel_spelled (choose parallel_for_spelled (choose spawned_spelled
      (choose returned_spelled jump_spelled))))))))))

stmt_spelled : (n : ℕ) → Holds (Sub AlwaysProper) (stmt_rule n).spells
unfolding stmt_rule
stmt_spelled zero = stmt_line_spelled zero never (λ a b x p. absurd p)
stmt_spelled (suc n) = stmt_line_spelled (suc n) (stmt_rule n) (stmt_spelled n)

inner_spelled : (n : ℕ) → Holds (Sub AlwaysProper) (inner_stmt_rule n).spells
unfolding inner_stmt_rule
inner_spelled zero = λ a b x p. absurd p
inner_spelled (suc n) = stmt_spelled n

-- ---- functions, members and items

abbrev pub ProperFunction : Function → Type 0
ProperFunction f = EachOf AlwaysProper f.body

abbrev pub ProperMember : Member → Type 0
ProperMember (member.Field d) = Unit {0}
ProperMember (member.Func f) = ProperFunction f
ProperMember (member.Build name params body line) = EachOf AlwaysProper body

abbrev pub ProperItem : Item → Type 0
ProperItem (item.Const name value line) = Unit {0}
ProperItem (item.Class c) = EachOf ProperMember c.members
ProperItem (item.Func f) = ProperFunction f

block_at_spelled : (n : ℕ) → Holds (λ (b : Block). EachOf AlwaysProper b.body) (block_at_rule n).spells
block_at_spelled n = block_spelled n (inner_stmt_rule n) (inner_spelled n)

function_spelled : (n : ℕ) → Holds ProperFunction (function_of_items n).spells
unfolding function_of_items
function_spelled n = skip _ (λ b. skip _ (λ p. skip _ (λ t. skip _ (λ xs. seq (block_at_spelled n) (λ body q. gives _ _ q)))))

label_spelled : Holds (EachOf ProperMember) label_of_items.spells
unfolding label_of_items
label_spelled = skip _ (λ w. skip _ (λ m. gives _ [] tt))

build_spelled : (n : ℕ) → Holds (EachOf ProperMember) (build_of_items n).spells
unfolding build_of_items
build_spelled n = skip _ (λ t. skip _ (λ xs. seq (block_at_spelled n) (λ body q. gives _ _ (q, tt))))

atomic_spelled : (n : ℕ) → Holds (EachOf ProperMember) (atomic_method_of_items n).spells
unfolding atomic_method_of_items
atomic_spelled n = skip _ (λ line. seq (function_spelled n) (λ f q. gives _ _ (q, tt)))

method_spelled : (n : ℕ) → Holds (EachOf ProperMember) (method_of_items n).spells
unfolding method_of_items
method_spelled n = seq (function_spelled n) (λ f q. gives _ _ (q, tt))

fields_spelled : (n : ℕ) → Holds (EachOf ProperMember) (fields_of_items n).spells
unfolding fields_of_items
fields_spelled n = skip _ (λ b. skip _ (λ x. seq (each (skip {Q = ProperMember} _ (λ m. skip {Q = ProperMember} _ (λ z. gives _ _ tt)))) (λ xs q. skip _ (λ m. gives _ _ (tt, q)))))

member_spelled : (n : ℕ) → Holds (EachOf ProperMember) (member_of_items n).spells
unfolding member_of_items
member_spelled n = choose label_spelled (choose (build_spelled n) (choose (choose (atomic_spelled n) (method_spelled n)) (fields_spelled n)))

member_list_spelled : (n : ℕ) → Holds (EachOf ProperMember) (member_list_of_items n).spells
unfolding member_list_of_items
member_list_spelled n = seq (each (member_spelled n)) (λ xss p. gives _ (joined xss) (each_joined ProperMember xss p))

members_spelled : (n : ℕ) → Holds (EachOf ProperMember) (members_of_items n).spells
unfolding members_of_items
members_spelled n = skip _ (λ o. seq (member_list_spelled (pred n)) (λ xs p. skip _ (λ m. gives _ xs p)))

constant_spelled : (n : ℕ) → Holds ProperItem (constant_of_items n).spells
unfolding constant_of_items
constant_spelled n = skip _ (λ line. skip _ (λ w. skip _ (λ t. skip _ (λ m. skip _ (λ x. skip _ (λ m. gives _ _ tt))))))

class_spelled : (n : ℕ) → Holds ProperItem (class_of_items n).spells
unfolding class_of_items
class_spelled n = skip _ (λ h. skip _ (λ t. seq (members_spelled n) (λ xs p. skip _ (λ m. gives _ _ p))))

item_spelled : (n : ℕ) → Holds ProperItem (item_of_items n).spells
unfolding item_of_items
item_spelled n = choose (constant_spelled n) (choose (class_spelled n) (seq (function_spelled n) (λ f q. gives _ (item.Func f) q)))

program_spelled : (n : ℕ) → Holds (λ (p : Program). EachOf ProperItem p.items) (program n).spells
unfolding program
program_spelled n = seq (each (item_spelled n)) (λ xs q. gives _ (record { items = xs }) q)

-- the tree of a program that some tokens spell
pub spelled_proper : (tokens : Lexemes) (p : Program) → Spells tokens p → EachOf ProperItem p.items
unfolding Spells
spelled_proper tokens p q = program_spelled 64 tokens [] p q
