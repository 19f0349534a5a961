-- How deep nest the statements that a symbol spells.
use Rattle.std.proofs.Common.{◌≡◌, ℕ, zero, suc, ◌≤◌, List, [], ◌∷◌, ◌++◌, Option, Some, None, sym, ap, ◌∙◌, subst, arith}
use Rattle.std.specs.Prelude.{pred}
use Rattle.cc_grammar.specs.Declarations.{slot as slot_rule, var as var_rule, decl as decl_rule}
use Rattle.cc_grammar.specs.Expressions.{expr, inner_expr, inner_unary, place, call}
use Rattle.cc_grammar.specs.Items.{function as function_rule, label as label_rule, build as build_rule, atomic_method as atomic_method_rule, method as method_rule, fields as fields_rule, member as member_rule, member_list as member_list_rule, members as members_rule, constant as constant_rule, class as class_rule, item as item_rule}
use Rattle.cc_grammar.specs.Lexeme.{Lexemes}
use Rattle.cc_grammar.specs.Nodes.{stated, assigned, called, declared, joined, one, line_of, decl_of, slot_of}
use Rattle.cc_grammar.specs.Program.{program, Spells}
use Rattle.cc_grammar.specs.Statements.{test as test_rule, simple as simple_rule, out as out_rule, print as print_rule, beginning as beginning_rule, maybe_beginning as maybe_beginning_rule, header as header_rule, counter as counter_rule, entry as entry_rule}
use Rattle.cc_grammar.specs.Statements.{entries as entries_rule, block as block_rule, block_stmt as block_stmt_rule, otherwise as otherwise_rule, choice as choice_rule, loop as loop_rule, for_loop as for_loop_rule, parallel as parallel_rule}
use Rattle.cc_grammar.specs.Statements.{parallel_for as parallel_for_rule, empty as empty_rule, plain as plain_rule, spawned as spawned_rule, returned as returned_rule, jump as jump_rule, stmt_line as stmt_line_rule, stmt as stmt_rule, inner_stmt as inner_stmt_rule, block_at as block_at_rule}
use Rattle.cc_grammar.specs.Symbol.{Symbol, never}
use Rattle.cc_grammar.specs.declared.parts.Block.{Block}
use Rattle.cc_grammar.specs.declared.parts.Slot.{Slot}
use Rattle.cc_grammar.specs.declared.parts.Spec.{Spec}
use Rattle.cc_tree.specs.declared.declarations.Function.{Function}
use Rattle.cc_tree.specs.declared.declarations.Item.TheVariants as item
use Rattle.cc_tree.specs.declared.declarations.Program.{Program}
use Rattle.cc_tree.specs.declared.expressions.Expr.{Expr}
use Rattle.cc_tree.specs.declared.statements.PrintItem.TheVariants as printed
use Rattle.cc_tree.specs.declared.statements.Start.TheVariants as start
use Rattle.cc_tree.specs.declared.statements.Stmt.{Stmt, out-roll-Stmt}
use Rattle.cc_tree.specs.declared.statements.StmtKind.{StmtKind, out-StmtKind, roll-StmtKind, out-roll-StmtKind}
use Rattle.cc_tree.specs.declared.statements.StmtKind.TheOpen.{StmtKind-F}
use Rattle.cc_tree.specs.declared.statements.StmtKind.TheVariants as k
use Rattle.cc_tree.specs.declared.statements.StmtKind.TheVariants.{rolls-Block, rolls-Empty, rolls-Declare, rolls-Assign, rolls-Call, rolls-Print, rolls-If, rolls-While, rolls-For, rolls-Break, rolls-Continue, rolls-Par, rolls-ParFor, rolls-Spawn, rolls-Return}
use Rattle.law_depth.specs.Depth.{EachOf, IfSome, NestsTo, Shallow, ShallowStart, ShallowItem, StatementLayer, statement_layer, StatementParts, StatementNestsTo, ShallowStatement, ShallowMember, ShallowFileItem}
use Rattle.law_depth.proofs.NestLaws.{deeper, int_nests}
use Rattle.law_depth.proofs.SpelledLaws.{Holds, seq, skip, gives, choose, each, maybe, nothing, up, within, few, bracketed_spelled, args_spelled, inner_expr_spelled, inner_unary_spelled, expr_nests, place_nests, call_nests, sum_nests}

-- ---- what nests so deep nests deeper, too

module _ (P Q : Stmt → Type 0) (f : (b : Stmt) → P b → Q b) where
  pub each_follows : (bs : List Stmt) → EachOf P bs → EachOf Q bs
  each_follows [] p = tt
  each_follows (b ∷ bs) p = (f b p.0, each_follows bs p.1)

  some_follows : (o : Option Stmt) → IfSome P o → IfSome Q o
  some_follows None p = tt
  some_follows (Some b) p = f b p

  pub parts_follow : (w : StatementLayer) → StatementParts P w → StatementParts Q w
  parts_follow (StmtKind-F.Block ss) p = each_follows ss p
  parts_follow StmtKind-F.Empty p = tt
  parts_follow (StmtKind-F.Declare d) p = p
  parts_follow (StmtKind-F.Assign target op e) p = p
  parts_follow (StmtKind-F.Call e) p = p
  parts_follow (StmtKind-F.Print xs) p = p
  parts_follow (StmtKind-F.If c first other) p = (p.0, f first p.1, some_follows other p.2)
  parts_follow (StmtKind-F.While c b) p = (p.0, f b p.1)
  parts_follow (StmtKind-F.For first c after b) p = (each_follows first p.0, p.1, some_follows after p.2, f b p.3)
  parts_follow StmtKind-F.Break p = tt
  parts_follow StmtKind-F.Continue p = tt
  parts_follow (StmtKind-F.Par bs) p = each_follows bs p
  parts_follow (StmtKind-F.ParFor name start c after b) p = (p.0, p.1, f after p.2, f b p.3)
  parts_follow (StmtKind-F.Spawn e) p = p
  parts_follow (StmtKind-F.Return e) p = p

pub deeper_statement : (d m : ℕ) → d ≤ m → (b : Stmt) → StatementNestsTo d b → StatementNestsTo m b
unfolding StatementNestsTo
deeper_statement zero m le b p = absurd p
deeper_statement (suc d) zero le b p = let l : suc d ≤ 0 = le in absurd (omega (arith, l))
deeper_statement (suc d) (suc m) le b p =
    parts_follow (StatementNestsTo d) (StatementNestsTo m) (deeper_statement d m (let l : suc d ≤ suc m = le in omega (arith, l))) (statement_layer b) p

-- ---- nodes

layer_is : (kind : StmtKind) (w : StatementLayer) (line : ℕ) → roll-StmtKind w ≡ kind → statement_layer (stated kind line) ≡ w
layer_is kind w line is =
    ap (λ r. out-StmtKind r.kind) (out-roll-Stmt (record { kind = kind; line = line }))
    ∙ (ap out-StmtKind (sym is) ∙ out-roll-StmtKind w)

nests : (d : ℕ) (kind : StmtKind) (w : StatementLayer) (line : ℕ) → roll-StmtKind w ≡ kind → StatementParts (StatementNestsTo d) w
    → StatementNestsTo (suc d) (stated kind line)
unfolding StatementNestsTo
nests d kind w line is p = subst (λ v. StatementParts (StatementNestsTo d) v) (sym (layer_is kind w line is)) p

each_append : {A : Type 0} (P : A → Type 0) (xs ys : List A) → EachOf P xs → EachOf P ys → EachOf P (xs ++ ys)
each_append P [] ys p q = q
each_append P (x ∷ xs) ys p q = (p.0, each_append P xs ys p.1 q)

each_joined : {A : Type 0} (P : A → Type 0) (xss : List (List A)) → EachOf (EachOf P) xss → EachOf P (joined xss)
each_joined P [] p = tt
each_joined P (xs ∷ xss) p = each_append P xs (joined xss) p.0 (each_joined P xss p.1)

one_nests : (line : ℕ) → Shallow (one line)
one_nests line = int_nests 999 _ line

pred_few : (n : ℕ) → n ≤ 64 → pred n ≤ 64
pred_few zero le = le
pred_few (suc n) le = let l : suc n ≤ 64 = le in omega (arith, l)

-- ---- expressions within a level

module _ (n : ℕ) (le : n ≤ 64) where
  shallow : Holds Shallow (expr n).spells
  shallow a b x p = expr_nests n a b x le p

  inside : (x : Expr) → NestsTo (within n) x → Shallow x
  inside x p = let f : up 8 (within n) ≤ 1000 = few n le in deeper (within n) 1000 (omega (arith, f)) x p

  inner_shallow : Holds Shallow (inner_expr n).spells
  inner_shallow a b x p = inside x (inner_expr_spelled n a b x p)

  each_inside : (xs : List Expr) → EachOf (NestsTo (within n)) xs → EachOf Shallow xs
  each_inside [] p = tt
  each_inside (x ∷ xs) p = (inside x p.0, each_inside xs p.1)

  some_inside : (o : Option Expr) → IfSome (NestsTo (within n)) o → IfSome Shallow o
  some_inside None p = tt
  some_inside (Some x) p = inside x p

  slot_spelled : Holds (λ (x : Slot). IfSome Shallow x.length) (slot_rule n).spells
  unfolding slot_rule
  slot_spelled = skip _ (λ p. skip _ (λ t. seq
      (maybe (bracketed_spelled n (within n) (inner_expr n) (inner_unary n) (inner_expr_spelled n) (inner_unary_spelled n)))
      (λ o q. gives _ _ (some_inside o q))))

  module _ (d : ℕ) where
    declared_nests : (b : Spec) (x : Slot) (at : _) → IfSome Shallow x.length → ShallowStart at → StatementNestsTo (suc d) (declared b x at)
    declared_nests b x at p q = nests d _ _ b.line (rolls-Declare (decl_of b x at)) (p, q)

    var_spelled : (b : Spec) → Holds (StatementNestsTo (suc d)) (var_rule n b).spells
    unfolding var_rule
    var_spelled b =
        choose (seq slot_spelled (λ x p. gives _ _ (declared_nests b x start.Nothing p tt)))
        (choose (skip _ (λ p. skip _ (λ t. skip _ (λ m. seq shallow (λ x q. gives _ _ (declared_nests b (slot_of p t None) (start.Value x) tt q))))))
        (skip _ (λ p. skip _ (λ t. seq
        (args_spelled n (within n) (inner_expr n) (inner_unary n) (inner_expr_spelled n) (inner_unary_spelled n))
        (λ xs q. gives _ _ (declared_nests b (slot_of p t None) (start.Args xs) tt (each_inside xs q)))))))

    decl_spelled : Holds (EachOf (StatementNestsTo (suc d))) (decl_rule n).spells
    unfolding decl_rule
    decl_spelled = skip _ (λ b. seq (var_spelled b) (λ x p. seq (each (skip {Q = StatementNestsTo (suc d)} _ (λ m. var_spelled b))) (λ xs q. gives _ (x ∷ xs) (p, q))))

    place_shallow : Holds Shallow (place n).spells
    place_shallow a b x p = place_nests n a b x le p

    call_shallow : Holds Shallow (call n).spells
    call_shallow a b x p = call_nests n a b x le p

    simple_spelled : Holds (StatementNestsTo (suc d)) (simple_rule n).spells
    unfolding simple_rule
    simple_spelled =
        choose (seq place_shallow (λ p pp. skip _ (λ op. seq shallow (λ x q. gives _ (assigned p op x) (nests d _ _ (line_of p) (rolls-Assign p op x) (pp, q))))))
        (choose (seq place_shallow (λ p pp. skip _ (λ c. gives _ (assigned p c.0 (one c.1)) (nests d _ _ (line_of p) (rolls-Assign p c.0 (one c.1)) (pp, one_nests c.1)))))
        (choose (skip _ (λ c. seq place_shallow (λ p pp. gives _ (stated (k.Assign p c.0 (one c.1)) c.1) (nests d _ _ c.1 (rolls-Assign p c.0 (one c.1)) (pp, one_nests c.1)))))
        (seq call_shallow (λ c q. gives _ (called c) (nests d _ _ (line_of c) (rolls-Call c) q)))))

    beginning_spelled : Holds (EachOf (StatementNestsTo (suc d))) (beginning_rule n).spells
    unfolding beginning_rule
    beginning_spelled = choose decl_spelled (seq simple_spelled (λ x p. gives _ (x ∷ []) (p, tt)))

    maybe_beginning_spelled : Holds (EachOf (StatementNestsTo (suc d))) (maybe_beginning_rule n).spells
    unfolding maybe_beginning_rule
    maybe_beginning_spelled = choose beginning_spelled (gives _ [] tt)

  test_spelled : Holds Shallow (test_rule n).spells
  unfolding test_rule
  test_spelled = skip _ (λ o. seq inner_shallow (λ x p. skip _ (λ m. gives _ x p)))

  out_spelled : Holds ShallowItem (out_rule n).spells
  unfolding out_rule
  out_spelled = choose (seq (λ a b x p. sum_nests n a b x le p) (λ x p. gives _ (printed.Value x) p))
      (choose (skip _ (λ bytes. gives _ (printed.Str bytes) tt)) (skip _ (λ w. gives _ printed.Endl tt)))

module _ (n : ℕ) (le : n ≤ 64) (d : ℕ) where
  header_spelled : Holds (λ h. EachOf (StatementNestsTo (suc d)) h.start × IfSome Shallow h.test × IfSome (StatementNestsTo (suc d)) h.step) (header_rule n).spells
  unfolding header_rule
  header_spelled = skip _ (λ o. seq (maybe_beginning_spelled (pred n) (pred_few n le) d) (λ first p. skip _ (λ m. seq (maybe (shallow (pred n) (pred_few n le)))
      (λ t r. skip _ (λ m. seq (maybe (simple_spelled (pred n) (pred_few n le) d)) (λ step q. skip _ (λ m.
      gives _ (record { start = first; test = t; step = step }) (p, r, q))))))))

  counter_spelled : Holds (λ c. Shallow c.start × Shallow c.test × StatementNestsTo (suc d) c.step) (counter_rule n).spells
  unfolding counter_rule
  counter_spelled = skip _ (λ o. skip _ (λ w. skip _ (λ t. skip _ (λ m. seq (shallow (pred n) (pred_few n le)) (λ first p. skip _ (λ m.
      seq (shallow (pred n) (pred_few n le)) (λ test r. skip _ (λ m. seq (simple_spelled (pred n) (pred_few n le) d) (λ step q. skip _ (λ m. gives _ _ (p, r, q)))))))))))

module _ (n : ℕ) (le : n ≤ 64) (d : ℕ) where
  module _ (stmt : Symbol Stmt) (whole : Holds (StatementNestsTo (suc d)) stmt.spells) where
    entry_spelled : Holds (EachOf (StatementNestsTo (suc d))) (entry_rule n stmt).spells
    unfolding entry_rule
    entry_spelled = choose (seq (decl_spelled (pred n) (pred_few n le) d) (λ xs p. skip _ (λ m. gives _ xs p))) (seq whole (λ x p. gives _ (x ∷ []) (p, tt)))

    entries_spelled : Holds (EachOf (StatementNestsTo (suc d))) (entries_rule n stmt).spells
    unfolding entries_rule
    entries_spelled = seq (each entry_spelled) (λ xss p. gives _ (joined xss) (each_joined (StatementNestsTo (suc d)) xss p))

    block_spelled : Holds (λ (b : Block). EachOf (StatementNestsTo (suc d)) b.body) (block_rule n stmt).spells
    unfolding block_rule
    block_spelled = skip _ (λ line. seq entries_spelled (λ xs p. skip _ (λ m. gives _ (record { body = xs; line = line }) p)))

    block_stmt_spelled : Holds (StatementNestsTo (suc (suc d))) (block_stmt_rule n stmt).spells
    unfolding block_stmt_rule
    block_stmt_spelled = seq block_spelled (λ b p. gives _ _ (nests (suc d) _ _ b.line (rolls-Block b.body) p))

    otherwise_spelled : Holds (IfSome (StatementNestsTo (suc d))) (otherwise_rule n stmt).spells
    unfolding otherwise_rule
    otherwise_spelled = choose (skip _ (λ w. seq whole (λ x p. gives _ (Some x) p))) (λ a b x p. subst (IfSome (StatementNestsTo (suc d))) p.1 tt)

    choice_spelled : Holds (StatementNestsTo (suc (suc d))) (choice_rule n stmt).spells
    unfolding choice_rule
    choice_spelled = skip _ (λ line. seq (test_spelled (pred n) (pred_few n le)) (λ x t. seq whole (λ first p. seq otherwise_spelled (λ other q.
        gives _ _ (nests (suc d) _ _ line (rolls-If x first other) (t, p, q))))))

    loop_spelled : Holds (StatementNestsTo (suc (suc d))) (loop_rule n stmt).spells
    unfolding loop_rule
    loop_spelled = skip _ (λ line. seq (test_spelled (pred n) (pred_few n le)) (λ x t. seq whole (λ body p.
        gives _ _ (nests (suc d) _ _ line (rolls-While x body) (t, p)))))

    for_loop_spelled : Holds (StatementNestsTo (suc (suc d))) (for_loop_rule n stmt).spells
    unfolding for_loop_rule
    for_loop_spelled = skip _ (λ line. seq (header_spelled (pred n) (pred_few n le) d) (λ h q. seq whole (λ body p.
        gives _ _ (nests (suc d) _ _ line (rolls-For h.start h.test h.step body) (q.0, q.1, q.2, p)))))

    parallel_spelled : Holds (StatementNestsTo (suc (suc d))) (parallel_rule n stmt).spells
    unfolding parallel_rule
    parallel_spelled = skip _ (λ line. skip _ (λ o. seq (each whole) (λ xs p. skip _ (λ m. gives _ _ (nests (suc d) _ _ line (rolls-Par xs) p)))))

    parallel_for_spelled : Holds (StatementNestsTo (suc (suc d))) (parallel_for_rule n stmt).spells
    unfolding parallel_for_rule
    parallel_for_spelled = skip _ (λ line. seq (counter_spelled (pred n) (pred_few n le) d) (λ c q. seq whole (λ body p.
        gives _ _ (nests (suc d) _ _ line (rolls-ParFor c.name c.start c.test c.step body) (q.0, q.1, q.2, p)))))

    empty_spelled : Holds (StatementNestsTo (suc (suc d))) empty_rule.spells
    unfolding empty_rule
    empty_spelled = skip _ (λ line. gives _ _ (nests (suc d) _ _ line rolls-Empty tt))

    plain_spelled : Holds (StatementNestsTo (suc (suc d))) (plain_rule n).spells
    unfolding plain_rule
    plain_spelled = seq (simple_spelled n le (suc d)) (λ x p. skip _ (λ m. gives _ x p))

    print_spelled : Holds (StatementNestsTo (suc (suc d))) (print_rule n).spells
    unfolding print_rule
    print_spelled = skip _ (λ line. seq (skip {Q = ShallowItem} _ (λ m. out_spelled n le)) (λ x p. seq (each (skip {Q = ShallowItem} _ (λ m. out_spelled n le)))
        (λ xs q. skip _ (λ m. gives _ _ (nests (suc d) _ _ line (rolls-Print (x ∷ xs)) (p, q))))))

    spawned_spelled : Holds (StatementNestsTo (suc (suc d))) (spawned_rule n).spells
    unfolding spawned_rule
    spawned_spelled = skip _ (λ line. seq (λ a b x p. call_nests n a b x le p) (λ c q. skip _ (λ m. gives _ _ (nests (suc d) _ _ line (rolls-Spawn c) q))))

    returned_spelled : Holds (StatementNestsTo (suc (suc d))) (returned_rule n).spells
    unfolding returned_rule
    returned_spelled = skip _ (λ line. seq (maybe (shallow n le)) (λ x q. skip _ (λ m. gives _ _ (nests (suc d) _ _ line (rolls-Return x) q))))

    jump_spelled : Holds (StatementNestsTo (suc (suc d))) jump_rule.spells
    unfolding jump_rule
    jump_spelled = choose
        (skip _ (λ line. skip _ (λ m. gives _ _ (nests (suc d) _ _ line rolls-Break tt))))
        (skip _ (λ line. skip _ (λ m. gives _ _ (nests (suc d) _ _ line rolls-Continue tt))))

    stmt_line_spelled : Holds (StatementNestsTo (suc (suc d))) (stmt_line_rule n stmt).spells
    unfolding stmt_line_rule
    stmt_line_spelled = choose block_stmt_spelled (choose empty_spelled (choose plain_spelled (choose print_spelled (choose choice_spelled
        (choose loop_spelled (choose for_loop_spelled (choose parallel_spelled (choose parallel_for_spelled (choose spawned_spelled
        (choose returned_spelled jump_spelled))))))))))

-- ---- within so many levels

stmt_spelled : (n : ℕ) → n ≤ 64 → Holds (StatementNestsTo (suc (suc n))) (stmt_rule n).spells
unfolding stmt_rule
stmt_spelled zero le = stmt_line_spelled zero le 0 never (nothing _)
stmt_spelled (suc n) le = stmt_line_spelled (suc n) le (suc n) (stmt_rule n) (stmt_spelled n (let l : suc n ≤ 64 = le in omega (arith, l)))

inner_spelled : (n : ℕ) → n ≤ 64 → Holds (StatementNestsTo (suc n)) (inner_stmt_rule n).spells
unfolding inner_stmt_rule
inner_spelled zero le = nothing _
inner_spelled (suc n) le = stmt_spelled n (let l : suc n ≤ 64 = le in omega (arith, l))

module _ (n : ℕ) (le : n ≤ 64) where
  shallow_statement : (b : Stmt) → StatementNestsTo (suc n) b → ShallowStatement b
  shallow_statement b p = deeper_statement (suc n) 1000 (omega (arith, le)) b p

  block_at_spelled : Holds (λ (b : Block). EachOf ShallowStatement b.body) (block_at_rule n).spells
  block_at_spelled a b x p =
      each_follows (StatementNestsTo (suc n)) ShallowStatement shallow_statement x.body
      (block_spelled n le n (inner_stmt_rule n) (inner_spelled n le) a b x p)

  -- ---- functions, members and items

  function_spelled : Holds (λ (f : Function). EachOf ShallowStatement f.body) (function_rule n).spells
  unfolding function_rule
  function_spelled = skip _ (λ b. skip _ (λ p. skip _ (λ t. skip _ (λ xs. seq block_at_spelled (λ body q. gives _ _ q)))))

  build_spelled : Holds (EachOf ShallowMember) (build_rule n).spells
  unfolding build_rule
  build_spelled = skip _ (λ t. skip _ (λ xs. seq block_at_spelled (λ body q. gives _ _ (q, tt))))

  atomic_spelled : Holds (EachOf ShallowMember) (atomic_method_rule n).spells
  unfolding atomic_method_rule
  atomic_spelled = skip _ (λ line. seq function_spelled (λ f q. gives _ _ (q, tt)))

  method_spelled : Holds (EachOf ShallowMember) (method_rule n).spells
  unfolding method_rule
  method_spelled = seq function_spelled (λ f q. gives _ _ (q, tt))

  fields_spelled : Holds (EachOf ShallowMember) (fields_rule n).spells
  unfolding fields_rule
  fields_spelled = skip _ (λ b. seq (slot_spelled n le) (λ x p. seq (each (skip {Q = ShallowMember} _ (λ m. seq (slot_spelled n le) (λ y q. gives _ _ (q, tt)))))
      (λ xs q. skip _ (λ m. gives _ _ ((p, tt), q)))))

  label_spelled : Holds (EachOf ShallowMember) label_rule.spells
  unfolding label_rule
  label_spelled = skip _ (λ w. skip _ (λ m. gives _ [] tt))

  member_spelled : Holds (EachOf ShallowMember) (member_rule n).spells
  unfolding member_rule
  member_spelled = choose label_spelled (choose build_spelled (choose (choose atomic_spelled method_spelled) fields_spelled))

  member_list_spelled : Holds (EachOf ShallowMember) (member_list_rule n).spells
  unfolding member_list_rule
  member_list_spelled = seq (each member_spelled) (λ xss p. gives _ (joined xss) (each_joined ShallowMember xss p))

module _ (n : ℕ) (le : n ≤ 64) where
  members_spelled : Holds (EachOf ShallowMember) (members_rule n).spells
  unfolding members_rule
  members_spelled = skip _ (λ o. seq (member_list_spelled (pred n) (pred_few n le)) (λ xs p. skip _ (λ m. gives _ xs p)))

  constant_spelled : Holds ShallowFileItem (constant_rule n).spells
  unfolding constant_rule
  constant_spelled = skip _ (λ line. skip _ (λ w. skip _ (λ t. skip _ (λ m. seq (shallow n le) (λ x p. skip _ (λ m. gives _ _ p))))))

  class_spelled : Holds ShallowFileItem (class_rule n).spells
  unfolding class_rule
  class_spelled = skip _ (λ h. skip _ (λ t. seq members_spelled (λ xs p. skip _ (λ m. gives _ _ p))))

  item_spelled : Holds ShallowFileItem (item_rule n).spells
  unfolding item_rule
  item_spelled = choose constant_spelled (choose class_spelled (seq (function_spelled n le) (λ f q. gives _ (item.Func f) q)))

  program_spelled : Holds (λ (p : Program). EachOf ShallowFileItem p.items) (program n).spells
  unfolding program
  program_spelled = seq (each item_spelled) (λ xs q. gives _ (record { items = xs }) q)

pub spelled_shallow : (tokens : Lexemes) (p : Program) → Spells tokens p → EachOf ShallowFileItem p.items
unfolding Spells
spelled_shallow tokens p q = program_spelled 64 (omega arith) tokens [] p q
