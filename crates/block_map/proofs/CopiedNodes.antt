-- Nodes that stand at other locations than those at which they were made.
use Rattle.block_map.proofs.Common.{◌≡◌, List, [], ◌∷◌, Option, None, Some, IfSome, unwrap_or, refl, ap, ◌∙◌, NameId, untouched, At, IsCopiedNode, ExtendsTrie, IsNodeOf, IsSound, LookOfNumbers, TrieValue, child_at, found_at, found_below, own_found, base_look, Node, Base}
use Rattle.block_map.proofs.GrownTries.{child_of-grown, found_below-grown, IsNodeOf-child_at}
use Rattle.block_map.proofs.MergeinfoGiven.{child_of-childless, IsNodeOf-childless}

-- an untouched node makes no difference
pub child_at-untouched : (trie : TrieValue) (node : Option Node) (over : LookOfNumbers) (name : NameId)
    → child_at trie (record { node = Some (unwrap_or node untouched); base = over }) name ≡ child_at trie (record { node = node; base = over }) name
child_at-untouched trie None over name = λ i. record { node = child_of-childless trie untouched.own untouched.base untouched.may_give_mergeinfo_below name i; base = λ rest. over (name ∷ rest) }
child_at-untouched trie (Some node) over name = refl

pub found_at-untouched : (trie : TrieValue) (node : Option Node) (over : LookOfNumbers)
    → found_at trie (record { node = Some (unwrap_or node untouched); base = over }) ≡ found_at trie (record { node = node; base = over })
found_at-untouched trie None over = refl
found_at-untouched trie (Some node) over = refl

pub IsNodeOf-untouched : (trie : TrieValue) (node : Option Node) → IfSome node (IsNodeOf trie) → IsNodeOf trie (unwrap_or node untouched)
IsNodeOf-untouched trie None is = IsNodeOf-childless trie untouched.own untouched.base untouched.may_give_mergeinfo_below tt
IsNodeOf-untouched trie (Some node) is = is

-- on a base with what its own one had, a node shows over any other what it showed there
pub IsCopiedNode-base : (old new : TrieValue) → IsSound old → ExtendsTrie old new → (from : At) → IfSome from.node (IsNodeOf old) → (base : Base)
    → ((over : LookOfNumbers) → base_look new base over ≡ base_look old (unwrap_or from.node untouched).base from.base)
    → IsCopiedNode old new from (record (unwrap_or from.node untouched) { base = base })
IsCopiedNode-base old new sound grown from is base same = λ over path. by over path
  where
    by : (over : LookOfNumbers) (path : List NameId)
        → found_below new (record { node = Some (record (unwrap_or from.node untouched) { base = base }); base = over }) path ≡ found_below old from path
    by over [] = ap (λ (look : LookOfNumbers). own_found (unwrap_or from.node untouched).own (look [])) (same over) ∙ found_at-untouched old from.node from.base
    by over (name ∷ path) =
        let node = unwrap_or from.node untouched in
        let below : child_at new (record { node = Some (record node { base = base }); base = over }) name ≡ child_at old (record { node = Some node; base = from.base }) name =
        λ i. record {
          node = child_of-grown old new sound grown node name (IsNodeOf-untouched old from.node is) i;
          base = λ rest. same over i (name ∷ rest);
        } in
        ap (λ next. found_below new next path) (below ∙ child_at-untouched old from.node from.base name)
        ∙ found_below-grown old new sound grown (child_at old from name) path (IsNodeOf-child_at old new sound grown from name is)
