-- Symbols that spell the same, with the same fronts.
use Rattle.std.proofs.Common.{◌≡◌, Bool, true, false, inl, inr, refl, ◌∙◌, sym}
use Rattle.cc_grammar.specs.Lexeme.{Lexemes}
use Rattle.cc_grammar.specs.Kinds.{Kinds}
use Rattle.cc_lexer.specs.declared.token.Keyword.{Keyword}
use Rattle.cc_grammar.specs.Symbol.{Symbol, word, pure, ◌>>=◌, ◌>>◌, ◌or◌, has_word}
use Rattle.cc_grammar.specs.Reading.{Reader}
use Rattle.cc_grammar.proofs.Fronts.{Fronts}
use Rattle.cc_grammar.proofs.Exact.{Exact}
use Rattle.cc_grammar.proofs.Levels.{Levels}
use Rattle.cc_grammar.proofs.Rules.{Reads}

pub record Same {A : Type 0} (s t : Symbol A) : Type 0 where
  pub to : (a b : Lexemes) (x : A) → s.spells a b x → t.spells a b x
  pub from : (a b : Lexemes) (x : A) → t.spells a b x → s.spells a b x
  pub front_to : (a c : Lexemes) → s.front a c → t.front a c
  pub front_from : (a c : Lexemes) → t.front a c → s.front a c

module _ {A : Type 0} {s t : Symbol A} (i : Same s t) where
  fronts_same : Fronts t → Fronts s
  fronts_same l = record {
    full = λ a b x h. i.front_from a b (l.full a b x (i.to a b x h));
    none = λ a. i.front_from a a (l.none a);
    suffix = λ a c h. l.suffix a c (i.front_to a c h);
    cut = λ a b z x h. i.from a b x (l.cut a b z x (i.to _ _ x h));
    cut_front = λ a c z h. i.front_from a c (l.cut_front a c z (i.front_to _ _ h));
    grow = λ a b z t x h. i.from _ _ x (l.grow a b z t x (i.to _ _ x h));
    grow_front = λ a c z h. i.front_from _ _ (l.grow_front a c z (i.front_to a c h));
    short = λ a z h. i.front_from a _ (l.short a z (i.front_to _ _ h));
  }

  exact_same : {p : Reader A} {f g : Kinds} {e : Bool} → Exact p t f g e → Exact p s f g e
  exact_same l = record {
    sound = λ a b x h. i.from a b x (l.sound a b x h);
    complete = λ a b x h e. l.complete a b x (i.to a b x h) e;
    begins = λ a c h. l.begins a c (i.front_to a c h);
    some = λ e a b x h. l.some e a b x (i.to a b x h);
    size = λ a b x h. l.size a b x (i.to a b x h);
    viable = λ a h. i.front_from a _ (l.viable a h);
    stops = λ a c h. l.stops a c (i.front_to a c h);
    ahead = l.ahead;
  }

pub by_same : {A : Type 0} {n : _} {o p : Reader A} {s t : Symbol A} {f g : Kinds} {e : Bool} → Same s t → Reads n o p t f g e → Reads n o p s f g e
by_same i l = record {
  fronts = fronts_same i l.fronts;
  exact = exact_same i l.exact;
  levels = record { more = λ j. l.levels.more j; deep = λ j a c h. (let d = l.levels.deep j a c h in (d.0, d.1, d.2, i.front_from a d.1 d.3)) };
}

pub same : {A : Type 0} (s : Symbol A) → Same s s
same s = record { to = λ a b x h. h; from = λ a b x h. h; front_to = λ a c h. h; front_from = λ a c h. h }

infixl 9 ◌then◌
pub ◌then◌ : {A : Type 0} {s t u : Symbol A} → Same s t → Same t u → Same s u
i then j = record {
  to = λ a b x h. j.to a b x (i.to a b x h);
  from = λ a b x h. i.from a b x (j.from a b x h);
  front_to = λ a c h. j.front_to a c (i.front_to a c h);
  front_from = λ a c h. i.front_from a c (j.front_from a c h);
}

pub back : {A : Type 0} {s t : Symbol A} → Same s t → Same t s
back i = record { to = i.from; from = i.to; front_to = i.front_from; front_from = i.front_to }

pub same_or : {A : Type 0} {s s' t t' : Symbol A} → Same s s' → Same t t' → Same (s or t) (s' or t')
same_or i j = record {
  to = λ a b x h. elim h [ inl u ↦ inl (i.to a b x u) | inr u ↦ inr (j.to a b x u) ];
  from = λ a b x h. elim h [ inl u ↦ inl (i.from a b x u) | inr u ↦ inr (j.from a b x u) ];
  front_to = λ a c h. elim h [ inl u ↦ inl (i.front_to a c u) | inr u ↦ inr (j.front_to a c u) ];
  front_from = λ a c h. elim h [ inl u ↦ inl (i.front_from a c u) | inr u ↦ inr (j.front_from a c u) ];
}

-- under a first symbol
pub under : {A B : Type 0} (s : Symbol A) {t u : A → Symbol B} → ((x : A) → Same (t x) (u x)) → Same (s >>= t) (s >>= u)
under s i = record {
  to = λ a c y (b, x, h, j). (b, x, h, (i x).to b c y j);
  from = λ a c y (b, x, h, j). (b, x, h, (i x).from b c y j);
  front_to = λ a c h. elim h [ inl u ↦ inl u | inr w ↦ inr (w.0, w.1, w.2, (i w.1).front_to w.0 c w.3) ];
  front_from = λ a c h. elim h [ inl u ↦ inl u | inr w ↦ inr (w.0, w.1, w.2, (i w.1).front_from w.0 c w.3) ];
}

-- before a last symbol
pub before : {A B : Type 0} {s t : Symbol A} (u : A → Symbol B) → Same s t → Same (s >>= u) (t >>= u)
before u i = record {
  to = λ a c y (b, x, h, j). (b, x, i.to a b x h, j);
  from = λ a c y (b, x, h, j). (b, x, i.from a b x h, j);
  front_to = λ a c h. elim h [ inl v ↦ inl (i.front_to a c v) | inr w ↦ inr (w.0, w.1, i.to a w.0 w.1 w.2, w.3) ];
  front_from = λ a c h. elim h [ inl v ↦ inl (i.front_from a c v) | inr w ↦ inr (w.0, w.1, i.from a w.0 w.1 w.2, w.3) ];
}

-- what two alternatives begin with
pub factor : {A B : Type 0} (s : Symbol A) (t u : A → Symbol B) → Same ((s >>= t) or (s >>= u)) (s >>= (λ x. t x or u x))
factor s t u = record {
  to = λ a c y h. elim h [ inl w ↦ (w.0, w.1, w.2, inl w.3) | inr w ↦ (w.0, w.1, w.2, inr w.3) ];
  from = λ a c y (b, x, h, j). elim j [ inl v ↦ inl (b, x, h, v) | inr v ↦ inr (b, x, h, v) ];
  front_to = λ a c h. elim h [
    | inl v ↦ elim v [ inl w ↦ inl w | inr w ↦ inr (w.0, w.1, w.2, inl w.3) ]
    | inr v ↦ elim v [ inl w ↦ inl w | inr w ↦ inr (w.0, w.1, w.2, inr w.3) ]
  ];
  front_from = λ a c h. elim h [ inl w ↦ inl (inl w) | inr (b, x, i, j) ↦ elim j [ inl v ↦ inl (inr (b, x, i, v)) | inr v ↦ inr (inr (b, x, i, v)) ] ];
}

pub swap : {A : Type 0} (s t : Symbol A) → Same (s or t) (t or s)
swap s t = record {
  to = λ a b x h. elim h [ inl u ↦ inr u | inr u ↦ inl u ];
  from = λ a b x h. elim h [ inl u ↦ inr u | inr u ↦ inl u ];
  front_to = λ a c h. elim h [ inl u ↦ inr u | inr u ↦ inl u ];
  front_from = λ a c h. elim h [ inl u ↦ inr u | inr u ↦ inl u ];
}

pub regroup : {A : Type 0} (s t u : Symbol A) → Same ((s or t) or u) (s or (t or u))
regroup s t u = record {
  to = λ a b x h. elim h [ inl v ↦ elim v [ inl w ↦ inl w | inr w ↦ inr (inl w) ] | inr v ↦ inr (inr v) ];
  from = λ a b x h. elim h [ inl v ↦ inl (inl v) | inr v ↦ elim v [ inl w ↦ inl (inr w) | inr w ↦ inr w ] ];
  front_to = λ a c h. elim h [ inl v ↦ elim v [ inl w ↦ inl w | inr w ↦ inr (inl w) ] | inr v ↦ inr (inr v) ];
  front_from = λ a c h. elim h [ inl v ↦ inl (inl v) | inr v ↦ elim v [ inl w ↦ inl (inr w) | inr w ↦ inr w ] ];
}

-- the second of three to the front
pub forward : {A : Type 0} (s t u : Symbol A) → Same (s or (t or u)) (t or (s or u))
forward s t u = back (regroup s t u) then same_or (swap s t) (same u) then regroup t s u

-- alternatives, and then a symbol
pub spread : {A B : Type 0} (s t : Symbol A) (u : A → Symbol B) → Same ((s or t) >>= u) ((s >>= u) or (t >>= u))
spread s t u = record {
  to = λ a c y (b, x, h, j). elim h [ inl v ↦ inl (b, x, v, j) | inr v ↦ inr (b, x, v, j) ];
  from = λ a c y h. elim h [ inl w ↦ (w.0, w.1, inl w.2, w.3) | inr w ↦ (w.0, w.1, inr w.2, w.3) ];
  front_to = λ a c h. elim h [ inl v ↦ elim v [ inl w ↦ inl (inl w) | inr w ↦ inr (inl w) ] | inr (b, x, i, j) ↦ elim i [ inl v ↦ inl (inr (b, x, v, j)) | inr v ↦ inr (inr (b, x, v, j)) ] ];
  front_from = λ a c h. elim h [
    | inl v ↦ elim v [ inl w ↦ inl (inl w) | inr w ↦ inr (w.0, w.1, inl w.2, w.3) ]
    | inr v ↦ elim v [ inl w ↦ inl (inr w) | inr w ↦ inr (w.0, w.1, inr w.2, w.3) ]
  ];
}

-- three in a row
pub nest : {A B C : Type 0} (s : Symbol A) (t : A → Symbol B) (u : B → Symbol C) → Same ((s >>= t) >>= u) (s >>= (λ x. t x >>= u))
nest s t u = record {
  to = λ a d z (c, y, (b, x, h, i), j). (b, x, h, (c, y, i, j));
  from = λ a d z (b, x, h, (c, y, i, j)). (c, y, (b, x, h, i), j);
  front_to = λ a d h. elim h [
    | inl v ↦ elim v [ inl w ↦ inl w | inr w ↦ inr (w.0, w.1, w.2, inl w.3) ]
    | inr (c, y, (b, x, i, j), k) ↦ inr (b, x, i, inr (c, y, j, k))
  ];
  front_from = λ a d h. elim h [
    | inl w ↦ inl (inl w)
    | inr (b, x, i, v) ↦ elim v [ inl w ↦ inl (inr (b, x, i, w)) | inr (c, y, j, k) ↦ inr (c, y, (b, x, i, j), k) ]
  ];
}

-- no token, and then a symbol
pub unit : {A B : Type 0} (x : A) (t : A → Symbol B) → ((a : Lexemes) → (t x).front a a) → Same (pure x >>= t) (t x)
unit x t none = record {
  to = λ a c y (b, z, (h, i), j). unit_to a b c y z h i j;
  from = λ a c y h. (a, x, (refl, refl), h);
  front_to = λ a c h. elim h [ inl e ↦ rw e (none c) | inr (b, z, (i, j), k) ↦ unit_front a b c z i j k ];
  front_from = λ a c h. inr (a, x, (refl, refl), h);
}
  where
    unit_to : (a b c : Lexemes) (y : _) (z : _) → a ≡ b → x ≡ z → (t z).spells b c y → (t x).spells a c y
    unit_to a b c y z h i j = rw (h, i) j

    unit_front : (a b c : Lexemes) (z : _) → a ≡ b → x ≡ z → (t z).front b c → (t x).front a c
    unit_front a b c z h i j = rw (h, i) j

-- a value and the symbol that closes it, as one
pub closing : {A B C : Type 0} (s : Symbol A) (t : Symbol B) (u : A → Symbol C) → ((x : A) (a : Lexemes) → (u x).front a a) → Same (s >>= (λ x. t >> u x)) ((s >>= (λ x. t >> pure x)) >>= u)
closing s t u none = back (nest s (λ x. t >> pure x) u then under s (λ x. nest t (λ _. pure x) u then under t (λ _. unit x u (none x))))

-- the same behind a first symbol
pub closing_in : {A B C D : Type 0} (o : Symbol D) (s : Symbol A) (t : Symbol B) (u : A → Symbol C) → ((x : A) (a : Lexemes) → (u x).front a a)
    → Same (o >> (s >>= (λ x. t >> u x))) ((o >> (s >>= (λ x. t >> pure x))) >>= u)
closing_in o s t u none = back (nest o (λ _. s >>= (λ x. t >> pure x)) u then under o (λ _. back (closing s t u none)))

-- a word that may be missing
pub flagged : {A : Type 0} (w : Keyword) (u : Bool → Symbol A) → ((b : Bool) (a : Lexemes) → (u b).front a a) → Same (has_word w >>= u) ((word w >> u true) or u false)
flagged w u none = spread (word w >> pure true) (pure false) u then same_or (nest (word w) (λ _. pure true) u then under (word w) (λ _. unit true u (none true))) (unit false u (none false))

-- a symbol, and then no token
from_pure : {A : Type 0} (s : Symbol A) (a m b : Lexemes) (x z : A) → s.spells a m z → m ≡ b → z ≡ x → s.spells a b x
from_pure s a m b x z h i j = rw (← i, ← j) h

pub whole : {A : Type 0} {s : Symbol A} → Fronts s → Same s (s >>= pure)
whole {s = s} l = record {
  to = λ a b x h. (b, x, h, (refl, refl));
  from = λ a b x (m, z, h, (i, j)). from_pure s a m b x z h i j;
  front_to = λ a c h. inl h;
  front_from = λ a c h. elim h [ inl i ↦ i | inr (m, x, i, j) ↦ rw (← j) (l.full a m x i) ];
}
