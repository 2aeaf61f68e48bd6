-- What a dump that grows keeps.
use Rattle.svn_dump.proofs.Common.{◌≡◌, ℕ, zero, suc, ◌≤◌, List, [], ◌∷◌, ◌++◌, length, set, get_or, refl, ap, ◌∙◌, append_assoc, append-nil, arith, Extends, dump_of, DumpValue, NodeRecord}
use Rattle.svn_dump.specs.Growth.{CountsGrow, GrowsTo}

-- ---- counts of records

CountsGrow-same : (counts : List ℕ) → CountsGrow counts counts
CountsGrow-same [] = tt
CountsGrow-same (count ∷ []) = omega arith
CountsGrow-same (count ∷ next ∷ counts) = (refl, CountsGrow-same (next ∷ counts))

CountsGrow-twice : (a b c : List ℕ) → CountsGrow a b → CountsGrow b c → CountsGrow a c
CountsGrow-twice [] b c first second = tt
CountsGrow-twice (x ∷ []) [] c first second = elim first [ ]
CountsGrow-twice (x ∷ []) (y ∷ []) [] first second = elim second [ ]
CountsGrow-twice (x ∷ []) (y ∷ next ∷ b) [] first second = elim second [ ]
CountsGrow-twice (x ∷ []) (y ∷ []) (z ∷ c) first second = omega (arith, first, second)
CountsGrow-twice (x ∷ []) (y ∷ next ∷ b) (z ∷ c) first second = omega (arith, first, second.0)
CountsGrow-twice (x ∷ more ∷ a) [] c first second = elim first [ ]
CountsGrow-twice (x ∷ more ∷ a) (y ∷ []) c first second = elim first.1 [ ]
CountsGrow-twice (x ∷ more ∷ a) (y ∷ next ∷ b) [] first second = elim second [ ]
CountsGrow-twice (x ∷ more ∷ a) (y ∷ next ∷ b) (z ∷ c) first second = (first.0 ∙ second.0, CountsGrow-twice (more ∷ a) (next ∷ b) c first.1 second.1)

CountsGrow-push : (counts : List ℕ) (count : ℕ) → CountsGrow counts (counts ++ count ∷ [])
CountsGrow-push [] count = tt
CountsGrow-push (x ∷ []) count = omega arith
CountsGrow-push (x ∷ next ∷ counts) count = (refl, CountsGrow-push (next ∷ counts) count)

-- where the last one may rise
CountsGrow-last : (counts : List ℕ) (last count : ℕ) → length counts ≡ suc last → get_or counts last 0 ≤ count → CountsGrow counts (set counts last count)
CountsGrow-last [] last count long rises = absurd (omega (arith, long))
CountsGrow-last (x ∷ []) zero count long rises = rises
CountsGrow-last (x ∷ []) (suc last) count long rises = absurd (omega (arith, long))
CountsGrow-last (x ∷ next ∷ counts) zero count long rises = absurd (omega (arith, long))
CountsGrow-last (x ∷ next ∷ counts) (suc last) count long rises = (refl, CountsGrow-last (next ∷ counts) last count (omega (arith, long)) rises)

-- ---- dumps

-- a dump may stay as it is
pub GrowsTo_same : (dump : DumpValue) → GrowsTo dump dump
GrowsTo_same dump = grind (arith, append-nil, CountsGrow-same)

-- it may grow twice
pub GrowsTo-twice : {a b c : DumpValue} → GrowsTo a b → GrowsTo b c → GrowsTo a c
GrowsTo-twice {a} {b} {c} first second = record {
  names = (first.names.0 ++ second.names.0, second.names.1 ∙ ap (λ names. names ++ second.names.0) first.names.1 ∙ append_assoc a.names first.names.0 second.names.0);
  values = (first.values.0 ++ second.values.0, second.values.1 ∙ ap (λ values. values ++ second.values.0) first.values.1 ∙ append_assoc a.values first.values.0 second.values.0);
  records = (first.records.0 ++ second.records.0, second.records.1 ∙ ap (λ records. records ++ second.records.0) first.records.1 ∙ append_assoc a.records first.records.0 second.records.0);
  counts = CountsGrow-twice a.counts b.counts c.counts first.counts second.counts;
}

module _ (dump : DumpValue) where
  -- it may get a revision
  pub GrowsTo-with_revision : GrowsTo dump (dump_of dump.names dump.records (dump.counts ++ 0 ∷ []) dump.values)
  GrowsTo-with_revision = grind (arith, append-nil, CountsGrow-push)

  -- or a record of the last revision
  pub GrowsTo-with_record :
      (names texts : List (List ℕ)) (each : NodeRecord) (last count : ℕ) →
      Extends dump.names names → Extends dump.values texts → length dump.counts ≡ suc last → get_or dump.counts last 0 ≤ count →
      GrowsTo dump (dump_of names (dump.records ++ each ∷ []) (set dump.counts last count) texts)
  GrowsTo-with_record names texts each last count names_grow texts_grow is_last rises =
      record { names = names_grow; values = texts_grow; records = (each ∷ [], refl); counts = CountsGrow-last dump.counts last count is_last rises }
