-- The hits of segments, one segment after another.
use Rattle.path_index.proofs.Common.{◌≡◌, ℕ, ◌+◌, List, ◌∷◌, ◌++◌, Bool, Option, drop, filter, length, sym, ap, ◌∙◌, append_assoc, append-nil, arith, drop_all, filter-append, NameId, NodeRecord, Hit, Segment}
use Rattle.path_index.proofs.Operative.{hits_in, hits_from}

module _ (passes : Hit → Bool) (records : List NodeRecord) (segments : List (Segment NameId)) where
  -- the hits so far that pass and those of the segments that are left are those of all segments
  abbrev pub AreHitsTo : ℕ → List Hit → Type 0
  AreHitsTo index hits =
      hits ++ filter passes (hits_from index records (drop index segments)) ≡ filter passes (hits_from 0 records segments)

  -- at the end
  pub hits-AreHitsTo : (index : ℕ) (hits : List Hit) → AreHitsTo index hits → length segments ≡ index
      → hits ≡ filter passes (hits_from 0 records segments)
  hits-AreHitsTo index hits so done =
      sym (append-nil hits)
      ∙ ap (λ more. hits ++ filter passes (hits_from index records more)) (sym (drop_all index segments (omega arith))) ∙ so

  -- one segment more
  pub AreHitsTo-more : (index : ℕ) (hits found : List Hit) (segment : Segment NameId) (o : Option (List NameId)) → AreHitsTo index hits → drop index segments ≡ segment ∷ drop (index + 1) segments
      → segment.path ≡ o → found ≡ hits ++ filter passes (hits_in index records segment o) → AreHitsTo (index + 1) found
  AreHitsTo-more index hits found segment o so here at more =
      let rest = hits_from (index + 1) records (drop (index + 1) segments) in
      let first = hits_in index records segment segment.path in
      ap (λ front. front ++ filter passes rest) (more ∙ ap (λ p. hits ++ filter passes (hits_in index records segment p)) (sym at))
      ∙ append_assoc hits (filter passes first) (filter passes rest)
      ∙ ap (λ more. hits ++ more) (sym (filter-append passes first rest))
      ∙ ap (λ more. hits ++ filter passes (hits_from index records more)) (sym here) ∙ so
