-- The copies of a dump have paths of its names.
use Rattle.std.proofs.Common.{◌≡◌, ℕ, List, All, IfSome, filter, map, arith, sym, subst}
use Rattle.std.proofs.Math.ListN.{get_or-map}
use Rattle.std.proofs.lemmas.List.{length-map}
use Rattle.std.proofs.lemmas.List.Elements.{All-filter, All-weaker}
use Rattle.svn_path.specs.Path.{IsPathOf}
use Rattle.svn_path.specs.declared.names.NameId.{NameId}
use Rattle.svn_dump.specs.Dump.{DumpValue, IsActOf, IsDump, IsRecordOf}
use Rattle.svn_dump.specs.declared.record.Act.{Act}
use Rattle.svn_dump.specs.declared.record.Act.TheVariants as act
use Rattle.svn_dump.specs.declared.record.NodeRecord.{NodeRecord}
use Rattle.path_index.specs.Copies.{Copy, copies_between, copy_by, copy_of, copy_view, is_between}
use Rattle.path_index.specs.declared.copied.Copied.{Copied}
use Rattle.query_answer.specs.CopiesOf.{IsCopyOf}
use Rattle.query_answer.proofs.TreeEntries.{All-filter_map}

module _ (dump : DumpValue) where
  abbrev IsOfNames : Copy → Type 0
  IsOfNames copy = IsPathOf dump.names copy.to × IsPathOf dump.names copy.from

  copied_names : (to : List NameId) (rev : ℕ) (a : Act) → IsPathOf dump.names to → IsActOf dump rev a → IfSome (copy_by to a) IsOfNames
  copied_names to rev act.Delete of is = tt
  copied_names to rev (act.Change mi) of is = tt
  copied_names to rev (act.Add replace kind mi) of is = tt
  copied_names to rev (act.Copy replace from from_rev mi) of is = (of, is.0)

  record_names : (each : NodeRecord) → IsRecordOf dump each → IfSome (copy_of each) IsOfNames
  record_names each is = copied_names each.path each.rev each.act is.path is.act

  pub IsCopyOf-copies : IsDump dump → (above up_to : ℕ) (copies : List Copied) → map copy_view copies ≡ copies_between above up_to dump.records → All (IsCopyOf dump.names) copies
  IsCopyOf-copies kept above up_to copies are k d within =
      let kept_records = filter (is_between above up_to) dump.records in
      let all : All IsOfNames (map copy_view copies) =
      subst (All IsOfNames) (sym are)
      (All-filter_map copy_of IsOfNames kept_records
      (All-weaker (IsRecordOf dump) (λ each. IfSome (copy_of each) IsOfNames) record_names kept_records (All-filter (is_between above up_to) (IsRecordOf dump) dump.records kept.records))) in
      let both = subst IsOfNames (get_or-map copy_view copies k d) (all k (copy_view d) (omega (arith, within, length-map copies copy_view))) in
      record { to = both.0; from = both.1 }
