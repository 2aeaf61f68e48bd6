use Rattle.path_index.proofs.Common.{◌≡◌, ◌+◌, ◌++◌, ◌∷◌, [], length, take, sym, ap, ◌∙◌, append_assoc, arith, length-append, length-map, length-take-le, map-append, take_more}
use Rattle.svn_dump.specs.declared.record.NodeRecord.{NodeRecord as Record}
use Rattle.path_index.proofs.records.Records.with.Goals as goal

pub loop-index-preserved : goal.loop-index-preserved
loop-index-preserved c =
    let each = c.index-records-index.result in
    let before = c.loop-index.invariant in
    let all = c.loop-index.all.items in
    let index = c.loop-index.index in
    let records = c.args.records.now in
    let count : length all ≡ c.len-count.result + index =
    omega (
      arith,
      ap length before.all,
      length-append c.args.self (take index records),
      length-take-le index records (omega (arith, c.loop-index-test.true)),
      c.len-count.ensures,
      ap length c.self.invariant.of_revs,
      length-map c.self.inside.all.items (λ (each : Record). each.rev),
      ap length c.self.view_is,
    ) in
    record {
      all = c.push-in-loop-index.ensures ∙ ap (λ first. first ++ each ∷ []) before.all ∙ append_assoc c.args.self (take index records) (each ∷ [])
          ∙ ap (λ more. c.args.self ++ more) (ap (λ last. take index records ++ last ∷ []) c.index-records-index.is ∙ sym (take_more records index each c.loop-index-test.true));
      kept = rw c.push-in-loop-index.ensures (record {
        of_revs = c.in_ok-push.ensures.items ∙ ap (λ revs. revs ++ each.rev ∷ []) before.kept.of_revs ∙ sym (map-append (λ (each : Record). each.rev) all (each ∷ []));
        of_copies = c.in_ok-push_copy.ensures all count before.kept.of_copies;
      });
    }
