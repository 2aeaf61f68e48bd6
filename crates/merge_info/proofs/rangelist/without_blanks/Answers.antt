use Rattle.merge_info.proofs.Common.{ap, drop, ◌∙◌, rules, tests}
use Rattle.std.proofs.lemmas.Iterator.{YieldsList-from_slice}
use Rattle.std.proofs.lemmas.Iterator.Search.{position_from_yields_List}
use Rattle.merge_info.proofs.Elements.{is_no_blank, prefix_len-found}
use Rattle.merge_info.proofs.rangelist.without_blanks.Goals as goal

pub returns : goal.returns
returns c =
    let bytes = c.args.bytes.now in
    let found = position_from_yields_List is_no_blank _ _ c.position.result c.position.ensures.ran
    (YieldsList-from_slice bytes cc) (λ x b q k. search (rules, tests)) in
    c.split_at.ensures.back
    ∙ ap (λ n. drop n bytes) (c.unwrap_or-start.ensures ∙ prefix_len-found bytes c.position.result found)
