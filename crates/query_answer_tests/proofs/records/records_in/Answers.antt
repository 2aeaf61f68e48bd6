use Rattle.std.proofs.Common.{map, arith}
use Rattle.std.proofs.lemmas.List.{length-map}
use Rattle.svn_dump.proofs.Grouped.{length-records_by_revision}
use Rattle.svn_dump.specs.Dump.{history_view, record_view, text_of}
use Rattle.svn_dump.specs.History.{rename_record}
use Rattle.svn_dump.specs.declared.record.ValueId.{ValueId}
use Rattle.svn_path.specs.Names.{name_of}
use Rattle.svn_path.specs.declared.names.NameId.{NameId}
use Rattle.query_answer_tests.proofs.records.records_in.Goals as goal

pub records_in-records-requires : goal.records_in-records-requires
records_in-records-requires c =
    let dump = c.args.repo.now in
    let rename = rename_record (λ (name : NameId). name_of dump.names name.0) (λ (value : ValueId). text_of dump.values value.0) in
    omega (
      arith,
      c.if-rev-youngest.false,
      c.youngest.ensures,
      length-map (history_view dump) (map rename),
      length-records_by_revision dump.counts (map record_view dump.records),
    )
