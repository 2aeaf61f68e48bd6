-- Results for the places that are taken.
use Rattle.query_pool.proofs.Common.{◌≡◌, ℕ, ◌<◌, ◌==◌, Bool, true, false, if◌then◌else◌, All, List, [], ◌∷◌, ◌++◌, length, refl, sym, subst, ap, ◌∙◌, append_assoc, nat_lt, arith, append-nil, flat_map_more, All-append, All-cons, All-head, All-nil, All-tail, worker_view, HandsOver, results_in, HasEachOnce, count_at, results_of, Finishes, HasTakenAll, Records, Serves, Takes, after_split, joined, split_off, times, Tally}
use Rattle.std.specs.Global.{Vec}
use Rattle.query_pool.specs.declared.part.Part.{Part}
use Rattle.query_pool.specs.declared.caller.Caller.{Caller}
use Rattle.query_pool.proofs.Counts.{count_at-append}
use Rattle.query_pool.proofs.Stealing.{times-append, times-one}

count_at-one : {X : Type 0} (place at : ℕ) (found : X) → count_at place ((at, found) ∷ []) ≡ (if at == place then 1 else 0)
count_at-one {X} place at found = by (at == place)
  where
    by : (here : Bool) → length {A = ℕ × X} (if here then (at, found) ∷ [] else []) ≡ (if here then 1 else 0)
    by true = refl
    by false = refl

module _ {X : Type 0} (gives : ℕ → X → Type 0) where
  abbrev Given : ℕ × X → Type 0
  Given each = gives each.0 each.1

  All-cut : (front back : List (ℕ × X)) → All Given (front ++ back) → All Given front × All Given back
  All-cut [] back all = (All-nil Given, all)
  All-cut (each ∷ front) back all =
      let rest = All-cut front back (All-tail Given each (front ++ back) all) in
      (All-cons Given each front (All-head Given each (front ++ back) all) rest.0, rest.1)

  -- one more place was taken, and has its result
  pub Records-one : (taken : List ℕ) (before rest after : List (ℕ × X)) (place : ℕ) → Records gives taken (before ++ rest) → Finishes gives before place after
      → Records gives (taken ++ place ∷ []) (after ++ rest)
  Records-one taken before rest after place records finishes = record {
    places = λ k.
        let found = finishes.found in
        let whole = count_at-append k before rest in
        let now = ap (λ (results : List (ℕ × X)). count_at k (results ++ rest)) finishes.after_is in
        let more = count_at-append k (before ++ (place, found) ∷ []) rest in
        let front = count_at-append k before ((place, found) ∷ []) in
        omega (arith, whole, now, more, front, count_at-one k place found, times-append k taken (place ∷ []), times-one k place, records.places k);
    given =
        let old = All-cut before rest records.given in
        All-append Given after rest
        (subst (All Given) (sym finishes.after_is) (All-append Given before _ old.0 (All-cons Given (place, finishes.found) [] finishes.given (All-nil Given)))) old.1;
  }

  -- the places and results of two passes
  pub Records-both : (taken more : List ℕ) (results found : List (ℕ × X)) → Records gives taken results → Records gives more found → Records gives (taken ++ more) (results ++ found)
  Records-both taken more results found records others = record {
    places = λ k. omega (arith, count_at-append k results found, times-append k taken more, records.places k, others.places k);
    given = All-append Given results found records.given others.given;
  }

  pub Serves-one : (before v w : Tally) (done rest now : List (ℕ × X)) (place : ℕ) → Serves gives before v (done ++ rest) → Takes v (place ∷ []) w → Finishes gives done place now
      → Serves gives before w (now ++ rest)
  Serves-one before v w done rest now place serves takes finishes = record {
    parts = ap (λ (pass : Tally). pass.parts) takes.after_is ∙ serves.parts;
    puts = ap (λ (pass : Tally). pass.puts) takes.after_is ∙ serves.puts;
    records = subst (λ taken. Records gives taken (now ++ rest)) (sym (ap (λ (pass : Tally). pass.taken) takes.after_is)) (Records-one v.taken done rest now place serves.records finishes);
  }

  -- the same of a thief
  pub Serves-steal : (before v w : Tally) (done now : List (ℕ × X)) (place : ℕ) → Serves gives before v done → Takes v (place ∷ []) w → Finishes gives done place now → Serves gives before w now
  Serves-steal before v w done now place serves takes finishes =
      subst (Serves gives before w) (append-nil now)
      (Serves-one before v w done [] now place (subst (Serves gives before v) (sym (append-nil done)) serves) takes finishes)

  -- the calling thread has taken in a thief
  pub Serves-joined : (first split last : Tally) (own theirs whole : Tally) (done : List (ℕ × X)) (parts : List (Part X)) (part : Part X) → 1 < first.parts
      → split ≡ after_split first → Serves gives split last (done ++ results_of parts)
      → own ≡ split_off first → Serves gives own theirs part.done.items
      → whole ≡ joined last theirs → Serves gives first whole (done ++ results_of (parts ++ part ∷ []))
  Serves-joined first split last own theirs whole done parts part some left serves right steals both = record {
    parts = ap (λ (pass : Tally). pass.parts) both
        ∙ omega (arith, some, serves.parts, steals.parts, ap (λ (pass : Tally). pass.parts) left, ap (λ (pass : Tally). pass.parts) right);
    puts = ap (λ (pass : Tally). pass.puts) both ∙ serves.puts ∙ ap (λ (pass : Tally). pass.puts) left;
    records = subst (λ taken. Records gives taken (done ++ results_of (parts ++ part ∷ []))) (sym (ap (λ (pass : Tally). pass.taken) both))
        (subst (Records gives (last.taken ++ theirs.taken)) (append_assoc done (results_of parts) part.done.items ∙ ap (λ (found : List (ℕ × X)). done ++ found) (flat_map_more (λ (part : Part X). part.done.items) [] parts part))
        (Records-both last.taken theirs.taken (done ++ results_of parts) part.done.items serves.records steals.records));
  }

  module _ {S : Type 0} (caller : Caller S X) (parts : List (Part X)) (hands : HandsOver caller parts) (records : Records gives (worker_view caller.owner).taken (results_in caller)) where
    abbrev pub pass : Tally
    pass = worker_view caller.owner

    abbrev pub others : List (ℕ × X)
    others = results_of caller.parts.items

    abbrev pub own : List (ℕ × X)
    own = caller.progress.done.items

    handed : others ++ own ≡ results_of parts
    handed =
        ap (λ (done : Vec (ℕ × X)). others ++ done.items) (sym hands.own_is)
        ∙ flat_map_more (λ (part : Part X). part.done.items) [] caller.parts.items hands.own
        ∙ ap results_of (sym hands.all)

    -- where each place was taken once, each has a result
    pub HasEachOnce-taken : (n : ℕ) → pass.puts ≡ n → HasTakenAll pass → HasEachOnce n (results_of parts)
    HasEachOnce-taken n puts all place =
        let same : count_at place (results_of parts) ≡ times place pass.taken =
        omega (arith, ap (count_at place) handed, count_at-append place others own, count_at-append place own others, records.places place) in
        subst (λ n. count_at place (results_of parts) ≡ (if nat_lt place n then 1 else 0)) puts (same ∙ all place)

    pub given-taken : All Given (results_of parts)
    given-taken =
        let cut = All-cut own others records.given in
        subst (All Given) handed (All-append Given others own cut.1 cut.0)
