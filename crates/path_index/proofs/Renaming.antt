-- The segments of a path in a renamed history, and which revisions are operative on it.
use Rattle.path_index.proofs.Common.{◌≡◌, ℕ, zero, suc, ◌+◌, ◌==◌, nat_lt, Bool, true, false, not, ◌&&◌, ◌||◌, if◌then◌else◌, List, [], ◌∷◌, Option, None, Some, option_map, map, refl, ap, ◌∙◌, Record, History, rename_record, rename_history, origin_of, location, Tree, is_there, tree_of, names_below, came_from_itself, records_in, is_operative, Segment, rename_segment, same_location, with_location, segments_up_to, segments_of}
use Rattle.svn_dump.proofs.Renaming.Locations.{origin_of-rename, location-rename}
use Rattle.svn_dump.proofs.Renaming.Paths.{KeepsSame, is_below-rename, same_path-rename}
use Rattle.svn_dump.proofs.Renaming.Trees.{rename_tree, rename_origin, tree_of-rename, is_there-rename}

-- the records of a revision are renamed
pub records_in-rename : {C D M N : Type 0} (name : C → D) (text : M → N) (history : History C M) (rev : ℕ)
    → records_in (rename_history name text history) rev ≡ map (rename_record name text) (records_in history rev)
records_in-rename name text [] rev = refl
records_in-rename name text (records ∷ history) zero = refl
records_in-rename name text (records ∷ history) (suc rev) = records_in-rename name text history rev

module _ {C D : Type 0} (name : C → D) (sameC : C → C → Bool) (sameD : D → D → Bool) (alike : KeepsSame name sameC sameD) where
  -- ---- segments

  -- renamed locations are the same exactly where the locations are
  pub same_location-rename : (a b : Option (List C)) → same_location sameD (option_map (map name) a) (option_map (map name) b) ≡ same_location sameC a b
  same_location-rename None None = refl
  same_location-rename None (Some q) = refl
  same_location-rename (Some p) None = refl
  same_location-rename (Some p) (Some q) = same_path-rename name sameC sameD alike p q

  joined-rename : (b : Bool) (rev : ℕ) (located : Option (List C)) (segment : Segment C) (segments : List (Segment C))
      → (if b then record (rename_segment name segment) { hi = rev } ∷ map (rename_segment name) segments
      else record { lo = rev; hi = rev; path = option_map (map name) located } ∷ rename_segment name segment ∷ map (rename_segment name) segments)
      ≡ map (rename_segment name) (if b then record segment { hi = rev } ∷ segments else record { lo = rev; hi = rev; path = located } ∷ segment ∷ segments)
  joined-rename true rev located segment segments = refl
  joined-rename false rev located segment segments = refl

  -- one more revision goes before or after renaming
  pub with_location-rename : (rev : ℕ) (located : Option (List C)) (segments : List (Segment C))
      → with_location sameD rev (option_map (map name) located) (map (rename_segment name) segments) ≡ map (rename_segment name) (with_location sameC rev located segments)
  unfolding with_location
  with_location-rename rev None [] = refl
  with_location-rename rev (Some path) [] = refl
  with_location-rename rev None (segment ∷ segments) =
      ap (λ b. if b then record (rename_segment name segment) { hi = rev } ∷ map (rename_segment name) segments
      else record { lo = rev; hi = rev; path = None } ∷ rename_segment name segment ∷ map (rename_segment name) segments) (same_location-rename None segment.path)
      ∙ joined-rename (same_location sameC None segment.path) rev None segment segments
  with_location-rename rev (Some path) (segment ∷ segments) =
      ap (λ b. if b then record (rename_segment name segment) { hi = rev } ∷ map (rename_segment name) segments
      else record { lo = rev; hi = rev; path = Some (map name path) } ∷ rename_segment name segment ∷ map (rename_segment name) segments) (same_location-rename (Some path) segment.path)
      ∙ joined-rename (same_location sameC (Some path) segment.path) rev (Some path) segment segments

  -- so do the revisions up to one
  pub segments_up_to-rename : (locatedC : ℕ → Option (List C)) (locatedD : ℕ → Option (List D)) → ((rev : ℕ) → locatedD rev ≡ option_map (map name) (locatedC rev))
      → (top : ℕ) → segments_up_to sameD locatedD top ≡ map (rename_segment name) (segments_up_to sameC locatedC top)
  unfolding segments_up_to
  segments_up_to-rename locatedC locatedD renamed zero =
      ap (λ located. with_location sameD zero located []) (renamed zero) ∙ with_location-rename zero (locatedC zero) []
  segments_up_to-rename locatedC locatedD renamed (suc rev) =
      (λ i. with_location sameD (suc rev) (renamed (suc rev) i) (segments_up_to-rename locatedC locatedD renamed rev i))
      ∙ with_location-rename (suc rev) (locatedC (suc rev)) (segments_up_to sameC locatedC rev)

  -- ---- records and origins

  -- renamed records name a renamed path where the records named it
  pub names_below-rename : {M N : Type 0} (text : M → N) (path : List C) (records : List (Record C M))
      → names_below sameD (map name path) (map (rename_record name text) records) ≡ names_below sameC path records
  names_below-rename text path [] = refl
  names_below-rename text path (each ∷ records) =
      λ i. is_below-rename name sameC sameD alike path each.path i || names_below-rename text path records i

  -- a renamed path came from itself where the path did
  pub came_from_itself-rename : (path : List C) (rev : ℕ) (origin : Option (List C × ℕ))
      → came_from_itself sameD (map name path) rev (option_map (rename_origin name) origin) ≡ came_from_itself sameC path rev origin
  came_from_itself-rename path rev None = refl
  came_from_itself-rename path rev (Some from) = ap (λ b. b && from.1 + 1 == rev) (same_path-rename name sameC sameD alike from.0 path)

module _ {C D M N : Type 0} (name : C → D) (text : M → N) (sameC : C → C → Bool) (sameD : D → D → Bool) (alike : KeepsSame name sameC sameD) where
  -- the segments of a renamed path are the renamed ones
  pub segments_of-rename : (trees : List (Tree C M)) (path : List C) (peg : ℕ)
      → segments_of sameD (map (rename_tree name text) trees) (map name path) peg ≡ map (rename_segment name) (segments_of sameC trees path peg)
  segments_of-rename trees path peg =
      segments_up_to-rename name sameC sameD alike (λ rev. location sameC trees path peg rev)
      (λ rev. location sameD (map (rename_tree name text) trees) (map name path) peg rev)
      (λ rev. location-rename name text sameC sameD alike trees path peg rev) peg

  -- ---- operative revisions

  module _ (history : History C M) (trees : List (Tree C M)) where
    -- a revision is an operative one of a renamed path where it is one of the path
    pub is_operative-rename : (path : List C) (rev : ℕ)
        → is_operative sameD (rename_history name text history) (map (rename_tree name text) trees) (map name path) rev
        ≡ is_operative sameC history trees path rev
    unfolding is_operative
    is_operative-rename path rev =
        let there = ap (λ tree. is_there sameD tree (map name path)) (tree_of-rename name text trees rev)
        ∙ is_there-rename name text sameC sameD alike (tree_of trees rev) path in
        let named = ap (names_below sameD (map name path)) (records_in-rename name text history rev)
        ∙ names_below-rename name sameC sameD alike text path (records_in history rev) in
        let came = ap (came_from_itself sameD (map name path) rev) (origin_of-rename name text sameC sameD alike trees path rev)
        ∙ came_from_itself-rename name sameC sameD alike path rev (origin_of sameC trees path rev) in
        λ i. nat_lt 0 rev && there i && (named i || not (came i))
