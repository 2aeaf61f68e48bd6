-- Reading a path a part at a time.
use Rattle.std.proofs.Common.{◌≡◌, ℕ, ◌+◌, ◌<◌, List, [], ◌∷◌, ◌++◌, All, length, get_or, take, slice_get, Some, sym, ap, subst, ◌∙◌, arith, length-append}
use Rattle.std.proofs.lemmas.List.{append_assoc, get_or_at, length-map, map_push, take_more}
use Rattle.std.proofs.lemmas.List.Elements.{All-push}
use Rattle.std.proofs.lemmas.List.Sums.{fold-append}
use Rattle.std.proofs.lemmas.Option.{get_or_from_slice_get, slice_get_within}
use Rattle.svn_path.specs.Components.{IsComponent}
use Rattle.svn_path.specs.Names.{with_name, with_names, name_of}
use Rattle.svn_path.specs.Path.{IsPathOf, components_of}
use Rattle.svn_path.specs.declared.names.NameId.{NameId}
use Rattle.svn_path.proofs.Tables.{with_name-append, components_of-append, IsPathOf-append}

-- the path spells the parts that were read, and the others are left
pub record IsRead (names all : List (List ℕ)) (path : List NameId) (left : List (List ℕ)) : Type 0 where
  pub within : IsPathOf names path
  pub parts : all ≡ components_of names path ++ left

-- the next part, by its number
pub IsRead-more : {names all left more : List (List ℕ)} {path : List NameId} {part : List ℕ} → IsRead names all path left → left ≡ part ∷ more → (id : NameId) → slice_get names id.0 ≡ Some part → IsRead names all (path ++ id ∷ []) more
IsRead-more {names} {all} {left} {more} {path} {part} read next id at = record {
  within = All-push (λ name. name.0 < length names) path id read.within (slice_get_within names id.0 part at);
  parts =
      let named : name_of names id.0 ≡ part = get_or_from_slice_get names id.0 part _ at in
      let more_spelled : components_of names (path ++ id ∷ []) ≡ components_of names path ++ part ∷ [] = map_push (λ name. name_of names name.0) path id ∙ ap (λ last. components_of names path ++ last ∷ []) named in
      read.parts ∙ ap (λ rest. components_of names path ++ rest) next ∙ sym (append_assoc (components_of names path) (part ∷ []) more) ∙ ap (λ front. front ++ more) (sym more_spelled);
}

-- the table may grow
pub IsRead-with_name : {names all left : List (List ℕ)} {path : List NameId} → IsRead names all path left → (name : List ℕ) → IsRead (with_name names name) all path left
IsRead-with_name {names} {all} {left} {path} read name =
    let (more, grown) = with_name-append names name in
    subst (λ table. IsRead table all path left) (sym grown) (record {
      within = IsPathOf-append names more path read.within;
      parts = read.parts ∙ ap (λ front. front ++ left) (sym (components_of-append names more path read.within));
    })

-- the next part has the number of parts that were read for its place
pub next_at : {names all left more : List (List ℕ)} {path : List NameId} {part : List ℕ} → IsRead names all path left → left ≡ part ∷ more → (length path < length all) × (get_or all (length path) part ≡ part)
next_at {names} {all} {left} {more} {path} {part} read next =
    let front = components_of names path in
    let parts : all ≡ front ++ part ∷ more = read.parts ∙ ap (λ rest. front ++ rest) next in
    let long : length front ≡ length path = length-map path (λ name. name_of names name.0) in
    (omega (arith, ap length parts, length-append front (part ∷ more), long), ap (λ every. get_or every (length path) part) parts ∙ get_or_at front part more part (length path) long)

-- it is a component where all are
pub component-from_IsRead : {names all left more : List (List ℕ)} {path : List NameId} {part : List ℕ} → IsRead names all path left → left ≡ part ∷ more → All IsComponent all → IsComponent part
component-from_IsRead {path} {part} read next components =
    let (below, at) = next_at read next in
    subst IsComponent at (components (length path) part below)

-- the table once it has the next part too
pub with_names-next : {names all left more : List (List ℕ)} {path : List NameId} {part : List ℕ} → IsRead names all path left → left ≡ part ∷ more → (old : List (List ℕ)) → names ≡ with_names old (take (length path) all) → with_name names part ≡ with_names old (take (length path + 1) all)
with_names-next {names} {all} {left} {more} {path} {part} read next old table =
    let (below, at) = next_at read next in
    let longer : take (length path + 1) all ≡ take (length path) all ++ part ∷ [] = take_more all (length path) part below ∙ ap (λ last. take (length path) all ++ last ∷ []) at in
    ap (λ each. with_name each part) table ∙ sym (fold-append with_name old (take (length path) all) (part ∷ [])) ∙ ap (with_names old) (sym longer)
