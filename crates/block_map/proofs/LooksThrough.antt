-- What the records of two neighbouring parts of a history say is what those of the later part say, by those of the
-- earlier part.
use Rattle.block_map.proofs.Common.{◌≡◌, ◌⊎◌, ℕ, zero, suc, ◌+◌, ◌-◌, ◌<◌, ◌≤◌, Bool, List, [], ◌∷◌, ◌++◌, Option, None, Some, get_or, length, inl, inr, refl, sym, ap, ◌∙◌, arith, append_assoc, append-nil, length-append, cases_lt, le-leb, lt-leb, length_push, below, Setting, keep, put, Action, delete, change, add, copy, Record, Found, at, at_with, is, absent, Look, found_after_action, look, look_after, look_at, looks_of, with_setting, with_mergeinfo, look_from, look_through}
use Rattle.block_map.proofs.Standings.{look_at_first}
use Rattle.block_map.proofs.TreesLooks.{length-looks_of, look_push-before, look_push-last}

-- the mergeinfo that is put last stays
with_mergeinfo-again : {C M : Type 0} (new old : Option M) (each : Found C M) → with_mergeinfo new (with_mergeinfo old each) ≡ with_mergeinfo new each
with_mergeinfo-again new old (at path tick) = refl
with_mergeinfo-again new old (at_with path tick older) = refl
with_mergeinfo-again new old (is kind older) = refl
with_mergeinfo-again new old absent = refl

-- past the last look there is nothing
get_or-past : {X : Type 0} (xs : List X) (i : ℕ) (d : X) → length xs ≤ i → get_or xs i d ≡ d
get_or-past [] i d past = refl
get_or-past (x ∷ xs) zero d past = absurd (omega (arith, past))
get_or-past (x ∷ xs) (suc i) d past = get_or-past xs i d (omega (arith, past))

look_at-past : {C M : Type 0} (lo : ℕ) (looks : List (Look C M)) (tick : ℕ) (path : List C) → lo + length looks < tick → look_at lo looks tick path ≡ absent
look_at-past lo looks tick path past =
    rw (lt-leb tick lo (omega (arith, past))) (ap (λ found. found path) (get_or-past looks (tick - lo - 1) (λ other. absent) (omega (arith, past))))

module _ {C M : Type 0} (same : C → C → Bool) where
  -- ---- one part

  module _ (lo : ℕ) (records : List (Record C M)) where
    look-past : (tick : ℕ) (path : List C) → lo + length records < tick → look same lo records tick path ≡ absent
    look-past tick path past = look_at-past lo (looks_of same lo records) tick path (omega (arith, past, length-looks_of same lo records))

    pub look_from-within : (tick : ℕ) (path : List C) → tick ≤ lo + length records → look_from same lo records tick path ≡ look same lo records tick path
    look_from-within tick path within = rw (le-leb tick (lo + length records) within) refl

    pub look_from-past : (tick : ℕ) (path : List C) → lo + length records < tick → look_from same lo records tick path ≡ at path tick
    look_from-past tick path past = rw (lt-leb tick (lo + length records) past) refl

    -- before its first record a part leaves what was found
    pub look_from-before : (tick : ℕ) (path : List C) → tick ≤ lo → look_from same lo records tick path ≡ at path tick
    look_from-before tick path before =
        look_from-within tick path (omega (arith, before)) ∙ look_at_first lo (looks_of same lo records) tick path before

    -- other mergeinfo, put before or after
    pub look_through-with_mergeinfo : (mergeinfo : Option M) (each : Found C M)
        → look_through same lo records (with_mergeinfo mergeinfo each) ≡ with_mergeinfo mergeinfo (look_through same lo records each)
    look_through-with_mergeinfo mergeinfo (at path tick) = refl
    look_through-with_mergeinfo mergeinfo (at_with path tick old) = sym (with_mergeinfo-again mergeinfo old (look_from same lo records tick path))
    look_through-with_mergeinfo mergeinfo (is kind old) = refl
    look_through-with_mergeinfo mergeinfo absent = refl

    look_through-with_setting : (setting : Setting M) (each : Found C M)
        → look_through same lo records (with_setting setting each) ≡ with_setting setting (look_through same lo records each)
    look_through-with_setting keep each = refl
    look_through-with_setting (put mergeinfo) each = look_through-with_mergeinfo mergeinfo each

  -- no records leave what was found
  module _ (lo : ℕ) where
    look_from-none : (tick : ℕ) (path : List C) → look_from {M = M} same lo [] tick path ≡ at path tick
    look_from-none tick path = elim (cases_lt lo tick) [
      | inl past ↦ look_from-past lo [] tick path (omega (arith, past))
      | inr before ↦ look_from-before lo [] tick path before
    ]

    pub look_through-none : (each : Found C M) → look_through same lo [] each ≡ each
    look_through-none (at path tick) = look_from-none tick path
    look_through-none (at_with path tick mergeinfo) = ap (with_mergeinfo mergeinfo) (look_from-none tick path)
    look_through-none (is kind mergeinfo) = refl
    look_through-none absent = refl

  -- ---- two parts

  module _ (lo : ℕ) (earlier : List (Record C M)) where
    abbrev middle : ℕ
    middle = lo + length earlier

    -- what all records say is what the later ones say, by the earlier ones
    abbrev SaysThrough : List (Record C M) → Type 0
    SaysThrough later = (tick : ℕ) (path : List C) → look same lo (earlier ++ later) tick path ≡ look_through same lo earlier (look same middle later tick path)

    -- so it is where there are no later ones
    says-none : SaysThrough []
    says-none tick path = ap (λ all. look same lo all tick path) (append-nil earlier) ∙ by (cases_lt middle tick)
      where
        by : (middle < tick) ⊎ (tick ≤ middle) → look same lo earlier tick path ≡ look_through same lo earlier (look same middle [] tick path)
        by (inl past) =
            look-past lo earlier tick path past ∙ sym (ap (look_through same lo earlier) (look-past middle [] tick path (omega (arith, past))))
        by (inr within) =
            sym (look_from-within lo earlier tick path within)
            ∙ sym (ap (look_through same lo earlier) (look_at_first middle (looks_of same middle []) tick path within))

    module _ (later : List (Record C M)) (says : SaysThrough later) where
      -- what an action leaves
      says-action : (action : Action C M) (old : Found C M) (rest : List C)
          → found_after_action lo (looks_of same lo (earlier ++ later)) action (look_through same lo earlier old) rest
          ≡ look_through same lo earlier (found_after_action middle (looks_of same middle later) action old rest)
      says-action delete old rest = refl
      says-action (change setting) old [] = sym (look_through-with_setting lo earlier setting old)
      says-action (change setting) old (c ∷ rest) = refl
      says-action (add replace kind setting) old [] = refl
      says-action (add replace kind setting) old (c ∷ rest) = refl
      says-action (copy replace from tick setting) old [] =
          ap (with_setting setting) (says tick from) ∙ sym (look_through-with_setting lo earlier setting (look same middle later tick from))
      says-action (copy replace from tick setting) old (c ∷ rest) = says tick (from ++ c ∷ rest)

      -- what one more record leaves, by the tick after the records before it and what is left of a path below its own
      abbrev left_of_all : Record C M → List C → ℕ → Option (List C) → Found C M
      left_of_all each path tick left =
          elim left [
            | None ↦ look same lo (earlier ++ later) tick path
            | Some rest ↦ found_after_action lo (looks_of same lo (earlier ++ later)) each.action (look same lo (earlier ++ later) tick path) rest
          ]

      abbrev left_of_later : Record C M → List C → ℕ → Option (List C) → Found C M
      left_of_later each path tick left =
          elim left [
            | None ↦ look same middle later tick path
            | Some rest ↦ found_after_action middle (looks_of same middle later) each.action (look same middle later tick path) rest
          ]

      says-left : (each : Record C M) (path : List C) (tick : ℕ) (left : Option (List C)) → left_of_all each path tick left ≡ look_through same lo earlier (left_of_later each path tick left)
      says-left each path tick None = says tick path
      says-left each path tick (Some rest) =
          ap (λ old. found_after_action lo (looks_of same lo (earlier ++ later)) each.action old rest) (says tick path)
          ∙ says-action each.action (look same middle later tick path) rest

      says-after : (each : Record C M) (path : List C)
          → look_after same lo (looks_of same lo (earlier ++ later)) each path ≡ look_through same lo earlier (look_after same middle (looks_of same middle later) each path)
      says-after each path =
          let end : lo + length (looks_of same lo (earlier ++ later)) ≡ middle + length (looks_of same middle later) =
          omega (arith, length-looks_of same lo (earlier ++ later), length-looks_of same middle later, length-append earlier later) in
          ap (λ tick. left_of_all each path tick (below same each.path path)) end
          ∙ says-left each path (middle + length (looks_of same middle later)) (below same each.path path)

      -- one record more
      says-push : (each : Record C M) → SaysThrough (later ++ each ∷ [])
      says-push each tick path =
          ap (λ all. look same lo all tick path) (sym (append_assoc earlier later (each ∷ []))) ∙ by (cases_lt (middle + length later) tick)
        where
          end_is : lo + length (earlier ++ later) ≡ middle + length later
          end_is = omega (arith, length-append earlier later)

          past_last : (last : tick ≡ middle + length later + 1) → look same lo ((earlier ++ later) ++ each ∷ []) tick path ≡ look_through same lo earlier (look same middle (later ++ each ∷ []) tick path)
          past_last last =
              look_push-last same lo (earlier ++ later) each tick path (omega (arith, last, end_is)) ∙ says-after each path
              ∙ sym (ap (look_through same lo earlier) (look_push-last same middle later each tick path last))

          past_all : (past : middle + length later + 1 < tick) → look same lo ((earlier ++ later) ++ each ∷ []) tick path ≡ look_through same lo earlier (look same middle (later ++ each ∷ []) tick path)
          past_all past =
              look-past lo ((earlier ++ later) ++ each ∷ []) tick path (omega (arith, past, end_is, length_push (earlier ++ later) each))
              ∙ sym (ap (look_through same lo earlier) (look-past middle (later ++ each ∷ []) tick path (omega (arith, past, length_push later each))))

          by : (middle + length later < tick) ⊎ (tick ≤ middle + length later) → look same lo ((earlier ++ later) ++ each ∷ []) tick path ≡ look_through same lo earlier (look same middle (later ++ each ∷ []) tick path)
          by (inr within) =
              look_push-before same lo (earlier ++ later) each tick path (omega (arith, within, end_is)) ∙ says tick path
              ∙ sym (ap (look_through same lo earlier) (look_push-before same middle later each tick path within))
          by (inl past) = elim (cases_lt (middle + length later + 1) tick) [
            | inl beyond ↦ past_all beyond
            | inr upto ↦ past_last (omega (arith, past, upto))
          ]

    says-more : (front rest : List (Record C M)) → SaysThrough front → SaysThrough (front ++ rest)
    says-more front [] says = λ tick path. ap (λ later. look same lo (earlier ++ later) tick path) (append-nil front) ∙ says tick path
        ∙ sym (ap (λ later. look_through same lo earlier (look same middle later tick path)) (append-nil front))
    says-more front (each ∷ rest) says = λ tick path.
        let joined = sym (append_assoc front (each ∷ []) rest) in
        ap (λ later. look same lo (earlier ++ later) tick path) joined
        ∙ says-more (front ++ each ∷ []) rest (says-push front says each) tick path
        ∙ sym (ap (λ later. look_through same lo earlier (look same middle later tick path)) joined)

    -- the looks of neighbouring parts, the later one's by the earlier one's, are those of both
    pub look-append : (later : List (Record C M)) (tick : ℕ) (path : List C)
        → look same lo (earlier ++ later) tick path ≡ look_through same lo earlier (look same (lo + length earlier) later tick path)
    look-append later tick path = says-more [] later says-none tick path

    -- the later ones say nothing of an earlier tick
    pub look-front : (later : List (Record C M)) (tick : ℕ) (path : List C) → tick ≤ lo + length earlier
        → look same lo (earlier ++ later) tick path ≡ look same lo earlier tick path
    look-front later tick path within =
        look-append later tick path ∙ ap (look_through same lo earlier) (look_at_first middle (looks_of same middle later) tick path within)
        ∙ look_from-within lo earlier tick path within

    -- and so it is of whatever was found
    look_from-append : (later : List (Record C M)) (tick : ℕ) (path : List C)
        → look_from same lo (earlier ++ later) tick path ≡ look_through same lo earlier (look_from same middle later tick path)
    look_from-append later tick path = by (cases_lt (middle + length later) tick)
      where
        by : (middle + length later < tick) ⊎ (tick ≤ middle + length later) → look_from same lo (earlier ++ later) tick path ≡ look_through same lo earlier (look_from same middle later tick path)
        by (inl past) =
            look_from-past lo (earlier ++ later) tick path (omega (arith, past, length-append earlier later))
            ∙ sym (ap (look_through same lo earlier) (look_from-past middle later tick path past)
            ∙ look_from-past lo earlier tick path (omega (arith, past)))
        by (inr within) =
            look_from-within lo (earlier ++ later) tick path (omega (arith, within, length-append earlier later))
            ∙ look-append later tick path
            ∙ sym (ap (look_through same lo earlier) (look_from-within middle later tick path within))

    pub look_through-append : (later : List (Record C M)) (each : Found C M)
        → look_through same lo (earlier ++ later) each ≡ look_through same lo earlier (look_through same (lo + length earlier) later each)
    look_through-append later (at path tick) = look_from-append later tick path
    look_through-append later (at_with path tick mergeinfo) =
        ap (with_mergeinfo mergeinfo) (look_from-append later tick path)
        ∙ sym (look_through-with_mergeinfo lo earlier mergeinfo (look_from same middle later tick path))
    look_through-append later (is kind mergeinfo) = refl
    look_through-append later absent = refl
