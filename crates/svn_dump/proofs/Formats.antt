-- A dump of format 2 under the first line of format 3 is a dump of the same history.
use Rattle.svn_dump.proofs.Common.{◌≡◌, ℕ, pred, false, List, [], ◌∷◌, ◌++◌, length, fold, sym, ap, ap₂, subst, ◌∙◌, Option, Some, None, codes, option_map, after_first, or_parts, same_Some, is_newline, Block, field, properties_length, FormatsAgree, first_line, Node, content_by_fields, setting_of, HistoryOfBytes, history_of, is_delta, node_action_of, node_of_block, record_of, says_true, content_of, with_block, with_record, with_content, Two, Three, format_of}
use Rattle.svn_dump.proofs.FirstRefusals.{after_first_line, after_first_block, format_of-line, told_by}
use Rattle.svn_dump.proofs.Refusals.{map_parts, no_delta}

-- ---- a block

-- a block without deltas says the same in both formats
same_node : (block : Block) (path : List ℕ) → is_delta Two block.lines ≡ false → node_of_block Three block path ≡ node_of_block Two block path
same_node block path none =
    ap₂ (λ delta changes. let node : Node = record { path = path; action = node_action_of block.lines; is_delta = delta; setting = setting_of changes (properties_length block.lines) block.body } in node)
    (sym none) (or_parts (says_true (field (codes "Prop-delta") block.lines)) (says_true (field (codes "Text-delta") block.lines)) none).0

-- so one that adds something adds the same
same_by : (block : Block) (history after : HistoryOfBytes) (number path uuid : Option (List ℕ)) →
    with_content history (content_by_fields number (option_map (node_of_block Two block) path) uuid) ≡ Some after →
    with_content history (content_by_fields number (option_map (node_of_block Three block) path) uuid) ≡ Some after
unfolding with_content
same_by block history after (Some number) path uuid told = told
same_by block history after None None uuid told = told
same_by block history after None (Some path) uuid told =
    let (each, at, same) = map_parts (with_record history) (record_of (pred (length history)) (node_of_block Two block path)) after told in
    ap (λ node. option_map (with_record history) (record_of (pred (length history)) node)) (same_node block path (no_delta (pred (length history)) (node_of_block Two block path) each at)) ∙ told

same_block : (block : Block) (history after : HistoryOfBytes) → with_block Two history block ≡ Some after → with_block Three history block ≡ Some after
unfolding content_of
same_block block history after told =
    same_by block history after (field (codes "Revision-number") block.lines) (field (codes "Node-path") block.lines) (field (codes "UUID") block.lines) told

-- ---- the blocks

same_blocks : (blocks : List Block) (history last : HistoryOfBytes) → fold (told_by Two) (Some history) blocks ≡ Some last → fold (told_by Three) (Some history) blocks ≡ Some last
same_blocks [] history last tells = tells
same_blocks (block ∷ blocks) history last tells =
    let (after, told, later) = after_first_block Two (with_block Two history block) blocks last tells in
    ap (λ o. fold (told_by Three) o blocks) (same_block block history after told) ∙ same_blocks blocks after last later

-- ---- the dump

pub formats_agree : FormatsAgree
formats_agree rest history is =
    let two : is.format ≡ Two = same_Some is.format Two (sym (ap format_of is.begins ∙ format_of-line is.format is.rest) ∙ format_of-line Two rest) in
    let same : is.rest ≡ rest = sym (ap (after_first is_newline) is.begins ∙ after_first_line is.format is.rest) ∙ after_first_line Two rest in
    record {
      format = Three;
      rest = is.rest;
      blocks = is.blocks;
      begins = ap (λ all. first_line Three ++ all) (sym same);
      follows = is.follows;
      tells = same_blocks is.blocks [] history (subst (λ each. history_of each is.blocks ≡ Some history) two is.tells);
      some_revision = is.some_revision;
      small = is.small;
    }
