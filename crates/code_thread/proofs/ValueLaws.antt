-- Lists of values as Rust holds them, as the definitions see them.
use Rattle.std.proofs.Common.{◌≡◌, ℕ, zero, suc, ◌+◌, List, [], ◌∷◌, ◌++◌, map, take, drop, set, get_or, refl, sym, ap, ◌∙◌, add-one}
use Rattle.std.specs.Prelude.{reverse}
use Rattle.std.proofs.lemmas.List.{reverse-append, map-append, map-set, take-map, drop-map}
use Rattle.global_ptr.specs.declared.values.Value.{Value as RustValue}
use Rattle.cc_ops.specs.Machine.{Address, value_of}
use Rattle.cc_ops.specs.Values.{Value, Null, resized}
use Rattle.code_thread.specs.Stacks.{topmost}

pub dropped_values : (n : ℕ) (vs : List RustValue) → map value_of (drop n vs) ≡ drop n (map value_of vs)
dropped_values n vs = sym (drop-map value_of n vs)

pub set_values : (vs : List RustValue) (k : ℕ) (v : RustValue) → map value_of (set vs k v) ≡ set (map value_of vs) k (value_of v)
set_values vs k v = map-set value_of vs k v

map_reverse : {A B : Type 0} (g : A → B) (xs : List A) → map g (reverse xs) ≡ reverse (map g xs)
map_reverse g [] = refl
map_reverse {A} {B} g (x ∷ xs) =
    let turned : map g (reverse xs ++ x ∷ []) ≡ reverse (map g xs) ++ g x ∷ [] =
    map-append g (reverse xs) (x ∷ []) ∙ ap (λ (ys : List B). ys ++ g x ∷ []) (map_reverse g xs) in
    ap (map g) (reverse-append (x ∷ []) xs) ∙ turned ∙ sym (reverse-append (g x ∷ []) (map g xs))

pub topmost_values : (n : ℕ) (vs : List RustValue) → map value_of (topmost n vs) ≡ topmost n (map value_of vs)
topmost_values n vs = map_reverse value_of (take n vs) ∙ ap reverse (sym (take-map value_of n vs))

-- one value more
pub resized_more : (n : ℕ) (vs : List (Value Address)) → resized (suc n) vs ≡ resized n vs ++ get_or vs n Null ∷ []
resized_more zero [] = refl
resized_more zero (v ∷ vs) = refl
resized_more (suc n) [] = ap (λ (ws : List (Value Address)). Null ∷ ws) (resized_more n [])
resized_more (suc n) (v ∷ vs) = ap (λ (ws : List (Value Address)). v ∷ ws) (resized_more n vs)

pub resized_pushed : (n : ℕ) (vs : List (Value Address)) (list : List RustValue) (v : RustValue) → map value_of list ≡ resized n vs
    → value_of v ≡ get_or vs n Null → map value_of (list ++ v ∷ []) ≡ resized (n + 1) vs
resized_pushed n vs list v e h =
    map-append value_of list (v ∷ [])
    ∙ ap (λ (ws : List (Value Address)). ws ++ value_of v ∷ []) e
    ∙ ap (λ (w : Value Address). resized n vs ++ w ∷ []) h
    ∙ sym (resized_more n vs)
    ∙ ap (λ (m : ℕ). resized m vs) (sym (add-one n))
