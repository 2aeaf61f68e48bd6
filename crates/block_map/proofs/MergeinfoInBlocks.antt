-- Where no path below a location has mergeinfo, by the blocks of a map.
use Rattle.block_map.proofs.Common.{◌≡◌, ◌≤◌, List, [], ◌∷◌, ◌++◌, Option, None, Some, inl, inr, sym, ap, ◌∙◌, arith, length, same_name, NameId, ValueId, AreBlocksBefore, AreBlocksFrom, block_records, look_through_trees, Found, look, resolved, look_through, mergeinfo_of, as_at, Trees}
use Rattle.block_map.specs.MergeinfoBelow.{IsMergeinfoBelow, LackMergeinfoBelow}
use Rattle.block_map.specs.declared.mergeinfo_below.MergeinfoBelow.TheVariants as below
use Rattle.block_map.specs.declared.trie.location.Location.{Location}
use Rattle.block_map.proofs.BlocksOfMaps.{end-front, look-before, through-earlier, through-last}
use Rattle.block_map.proofs.ChildrenFound.{resolved-again}
use Rattle.block_map.proofs.LooksThrough.{look_from-within}
use Rattle.block_map.proofs.MergeinfoLacked.{IsOrLacks, LacksMergeinfo-resolved, LacksMergeinfo-through, mergeinfo_of-lacking}

-- the mergeinfo below a location, by these blocks
abbrev pub mergeinfo_through : List Trees → Option Location → List NameId → Option ValueId
mergeinfo_through blocks found rest = mergeinfo_of (resolved 0 (look_through same_name 0 (block_records blocks) (as_at found rest)))

-- where the blocks that are left say that a path has none, all of them say so
abbrev pub LackAsLeft : List Trees → Location → List Trees → Option Location → Type 0
LackAsLeft all first left found = (name : NameId) (rest : List NameId)
    → mergeinfo_through left found (name ∷ rest) ≡ None → mergeinfo_through all (Some first) (name ∷ rest) ≡ None

-- and so it is once the last one was asked
pub LackAsLeft-earlier : (all earlier : List Trees) (first before : Location) (after : Option Location) (last : Trees) → AreBlocksFrom 0 (earlier ++ last ∷ [])
    → LackAsLeft all first (earlier ++ last ∷ []) (Some before)
    → IsMergeinfoBelow (λ rest. resolved last.start (look_through_trees last (as_at (Some before) rest))) (below.AsAt after)
    → LackAsLeft all first earlier after
LackAsLeft-earlier all earlier first before after last are was says name more none = was name more (through ∙ by (says name more))
  where
    rest : List NameId
    rest = name ∷ more

    last_says : Found NameId ValueId
    last_says = look_through_trees last (as_at (Some before) rest)

    through : mergeinfo_through (earlier ++ last ∷ []) (Some before) rest ≡ mergeinfo_of (resolved 0 (look_through same_name 0 (block_records earlier) (resolved last.start last_says)))
    through =
        ap (λ found. mergeinfo_of (resolved 0 found)) (through-last 0 earlier last (as_at (Some before) rest) are)
        ∙ ap mergeinfo_of (through-earlier 0 earlier last last_says (resolved last.start last_says) are (sym (resolved-again last.start last_says)))

    by : IsOrLacks (resolved last.start last_says) (as_at after rest)
        → mergeinfo_of (resolved 0 (look_through same_name 0 (block_records earlier) (resolved last.start last_says))) ≡ None
    by (inl is) = ap (λ found. mergeinfo_of (resolved 0 (look_through same_name 0 (block_records earlier) found))) is ∙ none
    by (inr lacks) =
        let found = look_through same_name 0 (block_records earlier) (resolved last.start last_says) in
        mergeinfo_of-lacking (resolved 0 found) (LacksMergeinfo-resolved 0 found (LacksMergeinfo-through 0 (block_records earlier) (resolved last.start last_says) lacks))

-- what those that begin before a tick say is what all of them say of it
pub LackMergeinfoBelow-blocks : (all front : List Trees) (location : Location) → AreBlocksFrom 0 all → AreBlocksBefore location.tick all front → location.tick ≤ length (block_records all)
    → ((name : NameId) (rest : List NameId) → mergeinfo_through front (Some location) (name ∷ rest) ≡ None)
    → LackMergeinfoBelow (λ path. mergeinfo_of (resolved 0 (look same_name 0 (block_records all) location.tick path))) location.path
LackMergeinfoBelow-blocks all front location are before within none name rest =
    let tick = location.tick in
    let path = location.path ++ name ∷ rest in
    let end = end-front 0 tick path all front are before (omega (arith, within)) in
    ap (λ found. mergeinfo_of (resolved 0 found))
    (look-before 0 tick path all front are before (omega (arith, within)) ∙ sym (look_from-within same_name 0 (block_records front) tick path end))
    ∙ none name rest
