-- A path holds nothing beyond itself, and of two paths at most one holds more of a revision.
use Rattle.std.proofs.Common.{◌≡◌, ◌∙◌, ℕ, ◌+◌, ◌-◌, ◌⊎◌, inl, inr, List, Option, None, ap, arith, if◌then◌else◌}
use Rattle.std.specs.Prelude.{option_map}
use Rattle.std.proofs.lemmas.Bool.{cases_lt, le-ltb}
use Rattle.range_list.specs.Rangelist.{is_in}
use Rattle.range_list.specs.declared.run.Run.{Run}
use Rattle.svn_dump.specs.Dump.{DumpValue, history_in_bytes}
use Rattle.svn_dump.specs.Record.{HistoryOfBytes}
use Rattle.query_answer.specs.Answer.{TreesOfBytes}
use Rattle.query_answer.specs.Repo.{trees_in_bytes}
use Rattle.branch_answer.specs.Holding.{Holding}
use Rattle.branch_answer.specs.NewRevisions.{Holder, NewOneWay, NothingIsNew, extent, holding_by_holder, more_held, new_holding}
use Rattle.branch_answer.proofs.HeldLines.{held}
use Rattle.branch_answer.proofs.Lists.{filter_map_down-none}
use Rattle.branch_answer.proofs.NewCells.{either_way}

-- of two ways one holds no more
more_one_way : (one other : Option Holding) → (more_held one other ≡ None) ⊎ (more_held other one ≡ None)
more_one_way one other = elim (cases_lt (extent one) (extent other)) [
  | inl more ↦ inr (ap (λ b. if b then one else None) (le-ltb (extent other) (extent one) (omega (arith, more))))
  | inr not ↦ inl (ap (λ b. if b then other else None) (le-ltb (extent one) (extent other) not))
]

module _ (history : HistoryOfBytes) (trees : TreesOfBytes) where
  not_newer : (one other : Holder) (uncounted : List Run) (rev : ℕ)
      → more_held (holding_by_holder history trees one rev) (holding_by_holder history trees other rev) ≡ None
      → new_holding history trees one other uncounted rev ≡ None
  not_newer one other uncounted rev no_more =
      ap (λ how. if is_in uncounted rev then None else how) no_more ∙ either_way None (is_in uncounted rev)

  NewOneWay-always : NewOneWay history trees
  NewOneWay-always one other uncounted rev = elim (more_one_way (holding_by_holder history trees one rev) (holding_by_holder history trees other rev)) [
    | inl no_more ↦ inl (not_newer one other uncounted rev no_more)
    | inr no_more ↦ inr (not_newer other one uncounted rev no_more)
  ]

  none_newer : (one : Holder) (uncounted : List Run) (rev : ℕ) → new_holding history trees one one uncounted rev ≡ None
  none_newer one uncounted rev = elim (NewOneWay-always one one uncounted rev) [ inl none ↦ none | inr none ↦ none ]

  NothingIsNew-always : NothingIsNew history trees
  NothingIsNew-always one range uncounted =
      filter_map_down-none (held (new_holding history trees one one uncounted)) (range.1 + 1 - range.0) range.1
      (λ rev to from. ap (option_map (λ how. (rev, how))) (none_newer one uncounted rev))

pub NothingIsNew-dump : (dump : DumpValue) → NothingIsNew (history_in_bytes dump) (trees_in_bytes dump)
NothingIsNew-dump dump = NothingIsNew-always (history_in_bytes dump) (trees_in_bytes dump)

pub NewOneWay-dump : (dump : DumpValue) → NewOneWay (history_in_bytes dump) (trees_in_bytes dump)
NewOneWay-dump dump = NewOneWay-always (history_in_bytes dump) (trees_in_bytes dump)
