-- Positions of paths below a root.
use Rattle.block_map.proofs.Common.{◌≡◌, ℕ, ◌+◌, ◌<◌, List, [], ◌∷◌, ◌++◌, Option, None, Some, IfSome, drop, get_or, length, option_map, take, append_assoc, refl, sym, ap, subst, ◌∙◌, slice_get, drop-length, take_more, fold-append, NameId, AddsBelow, IsLocationBelow, location_below, at, At, IsLocationOfPath, IsPathBaseOf, IsNodeOf, IsPositionOf, IsBaseOfPath, TrieValue, base_of_path, path_base_view, as_at, at_path, at_root, child_at, base_look, position_view, Node, Base, LocationId}
use Rattle.block_map.specs.declared.trie.node.Base.TheVariants as base
use Rattle.block_map.specs.declared.trie.location.Location.{Location}
use Rattle.block_map.specs.declared.trie.position.PathBase.{PathBase}
use Rattle.block_map.specs.declared.trie.position.PathBase.TheVariants as path_base
use Rattle.block_map.specs.declared.trie.position.Position.{Position}
use Rattle.block_map.proofs.GrownTries.{slice_get-last}

-- one component further down
pub at_path-push : (trie : TrieValue) (from : At) (path : List NameId) (name : NameId) → at_path trie from (path ++ name ∷ []) ≡ child_at trie (at_path trie from path) name
at_path-push trie from path name = fold-append (child_at trie) from path (name ∷ [])

-- the position one component further down is that of a path with one component more
pub IsPositionOf-step : (trie : TrieValue) (root : Node) (path : List NameId) (depth : ℕ) (d : NameId) (position next : Position) → depth < length path
    → IsPositionOf trie root (take depth path) position → IfSome next.node (IsNodeOf trie) → IsPathBaseOf trie (take depth path ++ get_or path depth d ∷ []) next.base
    → position_view trie (take depth path ++ get_or path depth d ∷ []) next ≡ child_at trie (position_view trie (take depth path) position) (get_or path depth d)
    → IsPositionOf trie root (take (depth + 1) path) next
IsPositionOf-step trie root path depth d position next within before node base is =
    let name = get_or path depth d in
    let front = take depth path in
    let position_is : IsPositionOf trie root (front ++ name ∷ []) next = record {
      node = node;
      base = base;
      is = is ∙ ap (λ from. child_at trie from name) before.is ∙ sym (at_path-push trie (at_root root) front name);
    } in
    subst (λ whole. IsPositionOf trie root whole next) (sym (take_more path depth d within)) position_is

-- the base of a path shows what that of its node has, over that of the parent
pub path_base_view-base_of_path : (trie : TrieValue) (base : Base) (path : List NameId) (parent : PathBase)
    → path_base_view trie path (base_of_path base parent (length path)) ≡ base_look trie base (path_base_view trie path parent)
path_base_view-base_of_path trie base.OfParent path parent = refl
path_base_view-base_of_path trie base.Nothing path parent = refl
path_base_view-base_of_path trie (base.At id) path parent = λ i rest. as_at (slice_get trie.locations id.0) (drop-length path i ++ rest)

-- the base of a path shows the location further down
pub IsLocationOfPath-below : (trie : TrieValue) (path : List NameId) (id : LocationId) (from : ℕ) (location : Location) → IsLocationBelow trie.locations id (drop from path) location
    → IsLocationOfPath trie path (path_base.At id from) (Some location)
IsLocationOfPath-below trie path id from location below = λ rest. by rest (slice_get trie.locations id.0) below
  where
    by : (rest : List NameId) (front : Option Location) → option_map (location_below (drop from path)) front ≡ Some location
        → as_at (Some location) rest ≡ as_at front (drop from path ++ rest)
    by rest None is = cc
    by rest (Some front) is = ap (λ shown. as_at shown rest) (sym is) ∙ ap (λ whole. at whole front.tick) (append_assoc front.path (drop from path) rest)

-- so a base at that location has what the base of the path has
pub IsBaseOfPath-below : (old new : TrieValue) (path : List NameId) (id : LocationId) (from : ℕ) (last : LocationId) → last.0 ≡ length old.locations
    → AddsBelow old.locations new.locations id (drop from path) → IsBaseOfPath old new path (path_base.At id from) (base.At last)
IsBaseOfPath-below old new path id from last is adds = λ over i rest.
    (ap (λ locations. as_at (slice_get locations last.0) rest) adds.added ∙ ap (λ found. as_at found rest) (slice_get-last old.locations adds.location last.0 is)
    ∙ IsLocationOfPath-below old path id from adds.location adds.below rest) i

-- the position of the root
pub IsPositionOf-root : (trie : TrieValue) (root : Node) → IsNodeOf trie root → IsPositionOf trie root [] (record { node = Some root; base = path_base.Nothing })
IsPositionOf-root trie root sound = record { node = sound; base = tt; is = refl }
