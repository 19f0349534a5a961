-- A map from texts, as the table of their bytes.
use Rattle.std.proofs.Common.{◌≡◌, ℕ, Bool, true, false, cond, List, [], ◌∷◌, ◌++◌, Option, Some, None, refl, sym, ap, ◌∙◌, string_bytes, bytes_eq}
use Rattle.std.specs.Map.{lookup}
use Rattle.std.specs.declared.string.String.{String}
use Rattle.std.specs.declared.alloc.Global.{Global}
use Rattle.cc_names.specs.Table.{Name, Table, entry, text_entries}

module _ {V : Type 0} where
  pub lookup_text : (name : Name) (entries : List (String Global × V)) → lookup (λ k. bytes_eq name (string_bytes k)) entries ≡ entry (text_entries entries) name
  lookup_text name [] = refl
  lookup_text name (e ∷ more) = ap (cond (bytes_eq name (string_bytes e.0)) (Some e.1)) (lookup_text name more)

  pub text_push : (entries : List (String Global × V)) (key : String Global) (value : V) → text_entries (entries ++ (key, value) ∷ []) ≡ text_entries entries ++ (string_bytes key, value) ∷ []
  text_push [] key value = refl
  text_push (e ∷ more) key value = ap (λ t. (string_bytes e.0, e.1) ∷ t) (text_push more key value)

  -- a map that a new key was put into, as a table
  pub pushed : (entries new : List (String Global × V)) (key : String Global) (value : V) (name : Name) (table : Table V)
      → string_bytes key ≡ name → text_entries entries ≡ table → entry table name ≡ None
      → (lookup (λ k. bytes_eq (string_bytes key) (string_bytes k)) entries ≡ None → new ≡ entries ++ (key, value) ∷ [])
      → text_entries new ≡ table ++ (name, value) ∷ []
  pushed entries new key value name table is_name is_table is_new is_pushed =
      let absent : lookup (λ k. bytes_eq (string_bytes key) (string_bytes k)) entries ≡ None =
      lookup_text (string_bytes key) entries ∙ ap (entry (text_entries entries)) is_name ∙ ap (λ t. entry t name) is_table ∙ is_new in
      ap text_entries (is_pushed absent) ∙ text_push entries key value
      ∙ ap (λ n. text_entries entries ++ (n, value) ∷ []) is_name ∙ ap (λ t. t ++ (name, value) ∷ []) is_table
