-- What nests so deep nests deeper, too; and the nodes of the grammar.
use Rattle.std.proofs.Common.{◌≡◌, ℕ, zero, suc, ◌≤◌, List, [], ◌∷◌, Option, Some, None, sym, ap, ◌∙◌, subst, arith}
use Rattle.cc_grammar.specs.Nodes.{node, chained, linked, prefixed, posted, named, member_of, args_of, line_of}
use Rattle.cc_grammar.specs.declared.parts.Name.{Name}
use Rattle.cc_tree.specs.declared.expressions.BinaryOp.{BinaryOp}
use Rattle.cc_tree.specs.declared.expressions.UnaryOp.{UnaryOp}
use Rattle.cc_tree.specs.declared.expressions.Expr.{Expr, out-roll-Expr}
use Rattle.cc_tree.specs.declared.expressions.ExprKind.{ExprKind, out-ExprKind, roll-ExprKind, out-roll-ExprKind}
use Rattle.cc_tree.specs.declared.expressions.ExprKind.TheOpen.{ExprKind-F, Suffix-F}
use Rattle.cc_tree.specs.declared.expressions.ExprKind.TheVariants as e
use Rattle.cc_tree.specs.declared.expressions.ExprKind.TheVariants.{rolls-Int, rolls-Null, rolls-This, rolls-Name, rolls-Call, rolls-Paren, rolls-Post, rolls-Unary, rolls-Chain, rolls-NewInt, rolls-NewClass}
use Rattle.cc_tree.specs.declared.expressions.Link.{Link, out-Link, out-roll-Link}
use Rattle.cc_tree.specs.declared.expressions.Suffix.{Suffix, out-Suffix, roll-Suffix, out-roll-Suffix}
use Rattle.cc_tree.specs.declared.expressions.Suffix.TheVariants as suffix
use Rattle.cc_tree.specs.declared.expressions.Suffix.TheVariants.{rolls-Index, rolls-Field, rolls-CallOn}
use Rattle.law_depth.specs.Depth.{EachOf, IfSome, Layer, layer, TailPart, Tail, Operand, Parts, NestsTo}

-- ---- a property that follows

module _ (P Q : Expr → Type 0) (f : (x : Expr) → P x → Q x) where
  each_follows : (xs : List Expr) → EachOf P xs → EachOf Q xs
  each_follows [] p = tt
  each_follows (x ∷ xs) p = (f x p.0, each_follows xs p.1)

  some_follows : (o : Option Expr) → IfSome P o → IfSome Q o
  some_follows None p = tt
  some_follows (Some x) p = f x p

  tail_follows : (s : Suffix-F ExprKind Suffix Expr Link) → TailPart P s → TailPart Q s
  tail_follows (Suffix-F.Index x) p = f x p
  tail_follows (Suffix-F.Field arrow member) p = tt
  tail_follows (Suffix-F.CallOn arrow member xs) p = each_follows xs p

  tails_follow : (ss : List Suffix) → EachOf (Tail P) ss → EachOf (Tail Q) ss
  tails_follow [] p = tt
  tails_follow (s ∷ ss) p = (tail_follows (out-Suffix s) p.0, tails_follow ss p.1)

  links_follow : (ls : List Link) → EachOf (Operand P) ls → EachOf (Operand Q) ls
  links_follow [] p = tt
  links_follow (l ∷ ls) p = (f (out-Link l).part p.0, links_follow ls p.1)

  pub parts_follow : (w : Layer) → Parts P w → Parts Q w
  parts_follow (ExprKind-F.Int n) p = tt
  parts_follow ExprKind-F.Null p = tt
  parts_follow ExprKind-F.This p = tt
  parts_follow (ExprKind-F.Name name) p = tt
  parts_follow (ExprKind-F.Call function es) p = each_follows es p
  parts_follow (ExprKind-F.Paren x) p = f x p
  parts_follow (ExprKind-F.Post x tail) p = (f x p.0, tails_follow tail p.1)
  parts_follow (ExprKind-F.Unary op x) p = f x p
  parts_follow (ExprKind-F.Chain x rest) p = (f x p.0, links_follow rest p.1)
  parts_follow (ExprKind-F.NewInt sync length) p = some_follows length p
  parts_follow (ExprKind-F.NewClass class es) p = each_follows es p

pub deeper : (d m : ℕ) → d ≤ m → (x : Expr) → NestsTo d x → NestsTo m x
unfolding NestsTo
deeper zero m le x p = absurd p
deeper (suc d) zero le x p = let l : suc d ≤ 0 = le in absurd (omega (arith, l))
deeper (suc d) (suc m) le x p =
    parts_follow (NestsTo d) (NestsTo m) (deeper d m (let l : suc d ≤ suc m = le in omega (arith, l))) (layer x) p

-- ---- nodes

layer_is : (kind : ExprKind) (w : Layer) (line : ℕ) → roll-ExprKind w ≡ kind → layer (node kind line) ≡ w
layer_is kind w line is =
    ap (λ r. out-ExprKind r.kind) (out-roll-Expr (record { kind = kind; line = line }))
    ∙ (ap out-ExprKind (sym is) ∙ out-roll-ExprKind w)

module _ (d : ℕ) where
  nests : (kind : ExprKind) (w : Layer) (line : ℕ) → roll-ExprKind w ≡ kind → Parts (NestsTo d) w → NestsTo (suc d) (node kind line)
  unfolding NestsTo
  nests kind w line is p = subst (λ v. Parts (NestsTo d) v) (sym (layer_is kind w line is)) p

  pub int_nests : (z : _) (line : ℕ) → NestsTo (suc d) (node (e.Int z) line)
  int_nests z line = nests _ _ line (rolls-Int z) tt

  pub null_nests : (line : ℕ) → NestsTo (suc d) (node e.Null line)
  null_nests line = nests _ _ line rolls-Null tt

  pub this_nests : (line : ℕ) → NestsTo (suc d) (node e.This line)
  this_nests line = nests _ _ line rolls-This tt

  pub named_nests : (t : Name) (o : Option (List Expr)) → IfSome (EachOf (NestsTo d)) o → NestsTo (suc d) (named t o)
  named_nests t None p = nests _ _ t.line (rolls-Name t.text) tt
  named_nests t (Some es) p = nests _ _ t.line (rolls-Call t.text es) p

  pub paren_nests : (x : Expr) (line : ℕ) → NestsTo d x → NestsTo (suc d) (node (e.Paren x) line)
  paren_nests x line p = nests _ _ line (rolls-Paren x) p

  pub prefixed_nests : (op : UnaryOp) (x : Expr) (line : ℕ) → NestsTo d x → NestsTo (suc d) (prefixed op x line)
  prefixed_nests op x line p = nests _ _ line (rolls-Unary op x) p

  pub new_int_nests : (sync : _) (o : Option Expr) (line : ℕ) → IfSome (NestsTo d) o → NestsTo (suc d) (node (e.NewInt sync o) line)
  new_int_nests sync o line p = nests _ _ line (rolls-NewInt sync o) p

  pub new_class_nests : (name : List ℕ) (o : Option (List Expr)) (line : ℕ) → IfSome (EachOf (NestsTo d)) o
      → NestsTo (suc d) (node (e.NewClass name (args_of o)) line)
  new_class_nests name None line p = nests _ _ line (rolls-NewClass name []) tt
  new_class_nests name (Some es) line p = nests _ _ line (rolls-NewClass name es) p

  pub posted_nests : (x : Expr) (ss : List Suffix) → NestsTo d x → EachOf (Tail (NestsTo d)) ss → NestsTo (suc d) (posted x ss)
  posted_nests x [] p q = deeper d (suc d) (omega arith) x p
  posted_nests x (s ∷ ss) p q = nests _ _ (line_of x) (rolls-Post x (s ∷ ss)) (p, q)

  pub chained_nests : (x : Expr) (ls : List Link) → NestsTo d x → EachOf (Operand (NestsTo d)) ls → NestsTo (suc d) (chained x ls)
  chained_nests x [] p q = deeper d (suc d) (omega arith) x p
  chained_nests x (l ∷ ls) p q = nests _ _ (line_of x) (rolls-Chain x (l ∷ ls)) (p, q)

  pub linked_nests : (op : BinaryOp) (x : Expr) → NestsTo d x → Operand (NestsTo d) (linked op x)
  linked_nests op x p = subst (λ r. NestsTo d r.part) (sym (out-roll-Link (record { op = op; part = x }))) p

  tail_nests : (s : Suffix) (w : Suffix-F ExprKind Suffix Expr Link) → roll-Suffix w ≡ s → TailPart (NestsTo d) w → Tail (NestsTo d) s
  tail_nests s w is p = subst (λ v. TailPart (NestsTo d) v) (sym (ap out-Suffix (sym is) ∙ out-roll-Suffix w)) p

  pub index_nests : (x : Expr) → NestsTo d x → Tail (NestsTo d) (suffix.Index x)
  index_nests x p = tail_nests _ _ (rolls-Index x) p

  pub member_nests : (arrow : _) (t : Name) (o : Option (List Expr)) → IfSome (EachOf (NestsTo d)) o → Tail (NestsTo d) (member_of arrow t o)
  member_nests arrow t None p = tail_nests _ _ (rolls-Field arrow t.text) tt
  member_nests arrow t (Some es) p = tail_nests _ _ (rolls-CallOn arrow t.text es) p

pub each_deeper : (d : ℕ) (xs : List Expr) → EachOf (NestsTo d) xs → EachOf (NestsTo (suc d)) xs
each_deeper d [] p = tt
each_deeper d (x ∷ xs) p = (deeper d (suc d) (omega arith) x p.0, each_deeper d xs p.1)

pub some_deeper : (d : ℕ) (o : Option (List Expr)) → IfSome (EachOf (NestsTo d)) o → IfSome (EachOf (NestsTo (suc d))) o
some_deeper d None p = tt
some_deeper d (Some xs) p = each_deeper d xs p
