-- Printing a path a component at a time.
use Rattle.std.proofs.Common.{◌≡◌, ◌≢◌, ℕ, ◌+◌, ◌<◌, List, [], ◌∷◌, ◌++◌, length, get_or, take, slice_get, Some, refl, sym, ap, ◌∙◌}
use Rattle.std.proofs.lemmas.List.{append_assoc, flat_map_more, map_push, take_more}
use Rattle.std.proofs.lemmas.Option.{get_or_from_slice_get}
use Rattle.svn_path.specs.Components.{parts_text, path_text}
use Rattle.svn_path.specs.Names.{name_of}
use Rattle.svn_path.specs.Path.{components_of}
use Rattle.svn_path.specs.declared.names.NameId.{NameId}

spelled_more : (names : List (List ℕ)) (path : List NameId) (i : ℕ) (id : NameId) → i < length path → components_of names (take (i + 1) path) ≡ components_of names (take i path) ++ name_of names (get_or path i id).0 ∷ []
spelled_more names path i id below = ap (components_of names) (take_more path i id below) ∙ map_push (λ name. name_of names name.0) (take i path) (get_or path i id)

-- a slash and the name of the component at `i` print one component more
pub below_root_more : (bytes : List ℕ) (names : List (List ℕ)) (path : List NameId) (i : ℕ) (id : NameId) (name : List ℕ) → i < length path → slice_get names (get_or path i id).0 ≡ Some name → ((bytes ++ parts_text (components_of names (take i path))) ++ 47 ∷ []) ++ name ≡ bytes ++ parts_text (components_of names (take (i + 1) path))
below_root_more bytes names path i id name below at =
    let parts = components_of names (take i path) in
    let named : name_of names (get_or path i id).0 ≡ name = get_or_from_slice_get names (get_or path i id).0 name _ at in
    append_assoc (bytes ++ parts_text parts) (47 ∷ []) name ∙ flat_map_more (λ each. 47 ∷ each) bytes parts name
    ∙ ap (λ last. bytes ++ parts_text (parts ++ last ∷ [])) (sym named) ∙ ap (λ all. bytes ++ parts_text all) (sym (spelled_more names path i id below))

-- only the root is printed otherwise
pub path_text-parts_text : (names : List (List ℕ)) (path : List NameId) → path ≢ [] → path_text (components_of names path) ≡ parts_text (components_of names path)
path_text-parts_text names [] some = absurd (some refl)
path_text-parts_text names (name ∷ path) some = refl
