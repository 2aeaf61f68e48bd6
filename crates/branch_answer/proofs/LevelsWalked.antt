-- The levels of a tree below a path, walked for mergeinfo: what was found, and what is left.
use Rattle.std.proofs.Common.{◌≡◌, ◌⊎◌, ℕ, zero, suc, ◌+◌, ◌-◌, ◌<◌, ◌≤◌, true, false, inl, inr, if◌then◌else◌, List, [], ◌∷◌, ◌++◌, Option, None, Some, All, option_and_then, bytes_eq, drop, filter, get_or, is_some, length, take, refl, sym, ap, subst, ◌∙◌, arith, append-nil, append_assoc, length-append, take-append-drop}
use Rattle.std.proofs.lemmas.Bool.{both_ways, cases_lt}
use Rattle.std.proofs.lemmas.List.{length-map, take_all, take_more}
use Rattle.std.proofs.lemmas.List.Elements.{All-append, All-cons, All-contains, All-nil, All-push, All-weaker, Contains-append_left, Contains-append_right, Contains-push}
use Rattle.svn_path.proofs.Belows.{same_path-is}
use Rattle.svn_path.specs.Below.{same_path}
use Rattle.svn_path.specs.Names.{name_of}
use Rattle.svn_path.specs.Path.{IsPathOf, components_of}
use Rattle.svn_path.specs.declared.names.NameId.{NameId}
use Rattle.svn_dump.specs.Dump.{DumpValue}
use Rattle.svn_dump.specs.Tree.{Entry, is_there, tree_of}
unfoldable use Rattle.svn_dump.specs.Tree.{entry_at}
use Rattle.query_answer.proofs.StandingsInBytes.{IsSame-bytes_eq}
use Rattle.query_answer.specs.Repo.{trees_in_bytes}
use Rattle.branch_answer.proofs.Membership.{All-kept, Contains-filter}
use Rattle.branch_answer.proofs.TreeParents.{HasParents, is_there-front}
use Rattle.branch_answer.specs.ExplicitFound.{AreFoundIn, AreOpen, AreOpenBelow, HasOpen, HasPath, IsChildIn, IsChildOfAny, IsFoundIn, has_own_at, has_own_text}
use Rattle.branch_answer.specs.KeptExplicit.{HasOwnText, own_text}
use Rattle.branch_answer.specs.Life.{PathOfBytes}
use Rattle.branch_answer.specs.Listing.{TreeOfBytes}
use Rattle.branch_answer.specs.Presence.{is_present}

-- ---- the lengths of paths

-- the sum of the lengths of all paths
abbrev pub total_length : TreeOfBytes → ℕ
total_length [] = 0
total_length (each ∷ tree) = length each.0 + total_length tree

-- a path that is there is no longer
length-le-total : (tree : TreeOfBytes) (path : PathOfBytes) → is_there bytes_eq tree path ≡ true → length path ≤ total_length tree
unfolding entry_at
length-le-total [] path there = absurd (both_ways true (sym there) refl)
length-le-total (each ∷ tree) path there = by (same_path bytes_eq each.0 path) refl there (length-le-total tree path)
  where
    by : (b : _) → same_path bytes_eq each.0 path ≡ b → is_some (if b then Some each.1 else entry_at bytes_eq tree path) ≡ true
        → (is_there bytes_eq tree path ≡ true → length path ≤ total_length tree) → length path ≤ length each.0 + total_length tree
    by true here at later = omega (arith, ap length ((same_path-is IsSame-bytes_eq each.0 path).0 here))
    by false other at later = omega (arith, later at)

-- how many levels there may be from this one on
abbrev pub levels_left : TreeOfBytes → List (List NameId) → ℕ
levels_left tree [] = 0
levels_left tree (one ∷ level) = suc (total_length tree) - length one

-- ---- the paths with these components

HasPath-left : (names : List (List ℕ)) (paths more : List (List NameId)) (parts : PathOfBytes) → HasPath names paths parts → HasPath names (paths ++ more) parts
HasPath-left names paths more parts (path, among, spells) = (path, Contains-append_left paths more path among, spells)

HasPath-right : (names : List (List ℕ)) (paths more : List (List NameId)) (parts : PathOfBytes) → HasPath names more parts → HasPath names (paths ++ more) parts
HasPath-right names paths more parts (path, among, spells) = (path, Contains-append_right paths more path among, spells)

module _ (dump : DumpValue) (rev : ℕ) where
  abbrev tree : TreeOfBytes
  tree = tree_of (trees_in_bytes dump) rev

  -- a path with mergeinfo is there
  there_from_own : (parts : PathOfBytes) → has_own_at dump rev parts ≡ true → is_there bytes_eq tree parts ≡ true
  there_from_own parts own = by (entry_at bytes_eq tree parts) own
    where
      by : (o : Option (Entry (List ℕ) (List ℕ))) → is_some (option_and_then (λ (entry : Entry (List ℕ) (List ℕ)). entry.mergeinfo) o) ≡ true → is_some o ≡ true
      by None own = own
      by (Some entry) own = refl

  own_text_from : (path : List NameId) → has_own_text dump rev path ≡ true → HasOwnText dump rev path
  own_text_from path own = by (own_text dump rev path) refl own
    where
      by : (o : Option (List ℕ)) → own_text dump rev path ≡ o → is_some o ≡ true → HasOwnText dump rev path
      by None at own = absurd (both_ways true (sym own) refl)
      by (Some text) at own = (text, at)

  -- ---- one level after another

  pub AreOpenBelow-nil : AreOpenBelow dump rev [] []
  AreOpenBelow-nil = record { sound = All-nil (IsChildOfAny dump rev []); complete = All-nil (λ path. HasOpen dump rev path []) }

  -- with the children of one path more
  pub AreOpenBelow-push : (level next more : List (List NameId)) (path : List NameId) → AreOpenBelow dump rev level next → AreOpen dump rev path more
      → AreOpenBelow dump rev (level ++ path ∷ []) (next ++ more)
  AreOpenBelow-push level next more path before one =
      let whole = level ++ path ∷ [] in
      let both = next ++ more in
      record {
        sound = All-append (IsChildOfAny dump rev whole) next more
            (All-weaker (IsChildOfAny dump rev level) (IsChildOfAny dump rev whole)
            (λ child (above, among, is). (above, Contains-append_left level (path ∷ []) above among, is)) next before.sound)
            (All-weaker (IsChildIn dump rev path) (IsChildOfAny dump rev whole) (λ child is. (path, Contains-push level path, is)) more one.sound);
        complete = All-push (λ above. HasOpen dump rev above both) level path
            (All-weaker (λ above. HasOpen dump rev above next) (λ above. HasOpen dump rev above both)
            (λ above has name rest there own. HasPath-left dump.names next more (components_of dump.names above ++ name ∷ []) (has name rest there own)) level before.complete)
            (λ name rest there own. HasPath-right dump.names next more (components_of dump.names path ++ name ∷ []) (one.complete name rest there own));
      }

  -- ---- from a path down

  module _ (path : List NameId) where
    abbrev parts : PathOfBytes
    parts = components_of dump.names path

    -- it is so many components below the path
    pub record IsAt (depth : ℕ) (one : List NameId) : Type 0 where
      pub rest : List NameId
      pub is : one ≡ path ++ rest
      pub long : length rest ≡ depth
      pub of_names : IsPathOf dump.names one
      pub there : is_present dump one rev ≡ true

    -- the paths down to a depth that have mergeinfo are found, and the others are at or below those of this level
    pub record AreWalked (depth : ℕ) (found level : List (List NameId)) : Type 0 where
      pub parents : HasParents bytes_eq tree
      pub at : All (IsAt depth) level
      pub sound : All (IsFoundIn dump path rev) found
      pub whole : (rest : PathOfBytes) → has_own_at dump rev (parts ++ rest) ≡ true
          → HasPath dump.names found (parts ++ rest) ⊎ ((depth ≤ length rest) × HasPath dump.names level (parts ++ take depth rest))

    pub AreWalked-start : HasParents bytes_eq tree → IsPathOf dump.names path → is_present dump path rev ≡ true → AreWalked 0 [] (path ∷ [])
    AreWalked-start parents of_names there = record {
      parents = parents;
      at = All-cons (IsAt 0) path [] (record { rest = []; is = sym (append-nil path); long = refl; of_names = of_names; there = there }) (All-nil (IsAt 0));
      sound = All-nil (IsFoundIn dump path rev);
      whole = λ rest own. inr (omega arith, (path, (zero, omega arith, refl), sym (append-nil parts)));
    }

    -- none is left
    pub AreFoundIn-end : (depth : ℕ) (found : List (List NameId)) → AreWalked depth found [] → AreFoundIn dump path rev found
    AreFoundIn-end depth found walked = record {
      sound = walked.sound;
      complete = λ rest own. elim (walked.whole rest own) [
        | inl has ↦ has
        | inr (deep, (one, (k, within, is), spells)) ↦ absurd (omega (arith, within))
      ];
    }

    module _ (depth : ℕ) (found level : List (List NameId)) (walked : AreWalked depth found level) (next : List (List NameId)) (below : AreOpenBelow dump rev level next) where
      abbrev own_ones : List (List NameId)
      own_ones = filter (has_own_text dump rev) level

      next_at : (child : List NameId) → IsChildOfAny dump rev level child → IsAt (depth + 1) child
      next_at child (above, among, is) =
          let at = All-contains (IsAt depth) level above walked.at among in
          let Named = λ (id : NameId). id.0 < length dump.names in
          record {
            rest = at.rest ++ is.name ∷ [];
            is = is.is ∙ ap (λ front. front ++ is.name ∷ []) at.is ∙ append_assoc path at.rest (is.name ∷ []);
            long = omega (arith, length-append at.rest (is.name ∷ []), at.long);
            of_names = subst (All Named) (sym is.is) (All-push Named above is.name at.of_names is.of_names);
            there = is.there;
          }

      own_is : (one : List NameId) → IsAt depth one → has_own_text dump rev one ≡ true → IsFoundIn dump path rev one
      own_is one at own = record { rest = at.rest; is = at.is; of_names = at.of_names; own = own_text_from one own }

      -- a path of this level that has mergeinfo is found
      found_here : (rest : PathOfBytes) → has_own_at dump rev (parts ++ rest) ≡ true → length rest ≤ depth → HasPath dump.names level (parts ++ take depth rest)
          → HasPath dump.names (found ++ own_ones) (parts ++ rest)
      found_here rest own short (one, among, spells) =
          let same : components_of dump.names one ≡ parts ++ rest = spells ∙ ap (λ front. parts ++ front) (take_all depth rest short) in
          HasPath-right dump.names found own_ones (parts ++ rest)
          (one, Contains-filter (has_own_text dump rev) level one (ap (has_own_at dump rev) same ∙ own) among, same)

      -- one below it is at or below a path of the next level
      found_below : (rest : PathOfBytes) → has_own_at dump rev (parts ++ rest) ≡ true → depth < length rest → HasPath dump.names level (parts ++ take depth rest)
          → HasPath dump.names next (parts ++ take (depth + 1) rest)
      found_below rest own long (one, among, spells) =
          let name = get_or rest depth [] in
          let left = drop (depth + 1) rest in
          let front : take (depth + 1) rest ≡ take depth rest ++ name ∷ [] = take_more rest depth [] long in
          let child : components_of dump.names one ++ name ∷ [] ≡ parts ++ take (depth + 1) rest =
          ap (λ all. all ++ name ∷ []) spells ∙ append_assoc parts (take depth rest) (name ∷ []) ∙ ap (λ all. parts ++ all) (sym front) in
          let whole : (parts ++ take (depth + 1) rest) ++ left ≡ parts ++ rest =
          append_assoc parts (take (depth + 1) rest) left ∙ ap (λ all. parts ++ all) (take-append-drop (depth + 1) rest) in
          let there : is_there bytes_eq tree (parts ++ take (depth + 1) rest) ≡ true =
          is_there-front bytes_eq tree walked.parents (parts ++ take (depth + 1) rest) left (subst (λ each. is_there bytes_eq tree each ≡ true) (sym whole) (there_from_own (parts ++ rest) own)) in
          let one_whole : components_of dump.names one ++ name ∷ left ≡ parts ++ rest =
          sym (append_assoc (components_of dump.names one) (name ∷ []) left) ∙ ap (λ all. all ++ left) child ∙ whole in
          subst (HasPath dump.names next) child
          (All-contains (λ above. HasOpen dump rev above next) level one below.complete among name left
          (subst (λ each. is_there bytes_eq tree each ≡ true) (sym child) there)
          (subst (λ each. has_own_at dump rev each ≡ true) (sym one_whole) own))

      -- one level further down
      pub AreWalked-next : AreWalked (depth + 1) (found ++ own_ones) next
      AreWalked-next = record {
        parents = walked.parents;
        at = All-weaker (IsChildOfAny dump rev level) (IsAt (depth + 1)) next_at next below.sound;
        sound = All-append (IsFoundIn dump path rev) found own_ones walked.sound
            (All-kept (has_own_text dump rev) (IsFoundIn dump path rev) level
            (All-weaker (IsAt depth) (λ one. has_own_text dump rev one ≡ true → IsFoundIn dump path rev one) own_is level walked.at));
        whole = λ rest own. elim (walked.whole rest own) [
          | inl has ↦ inl (HasPath-left dump.names found own_ones (parts ++ rest) has)
          | inr (deep, has) ↦ elim (cases_lt depth (length rest)) [
            | inl long ↦ inr (omega (arith, long), found_below rest own long has)
            | inr short ↦ inl (found_here rest own short has)
          ]
        ];
      }

      -- so fewer levels are left
      pub levels_left-falls : 0 < length level → levels_left tree next < levels_left tree level
      levels_left-falls some = by level next walked.at (AreWalked-next).at some
        where
          fits : (k : ℕ) (one : List NameId) → IsAt k one → (length one ≡ length path + k) × (length one ≤ total_length tree)
          fits k one at = (
            ap length at.is ∙ length-append path at.rest ∙ ap (λ more. length path + more) at.long,
            omega (arith, length-le-total tree (components_of dump.names one) at.there, length-map one (λ (id : NameId). name_of dump.names id.0)),
          )

          by : (these those : List (List NameId)) → All (IsAt depth) these → All (IsAt (depth + 1)) those → 0 < length these → levels_left tree those < levels_left tree these
          by [] those at after some = absurd (omega (arith, some))
          by (one ∷ these) [] at after some = let first = fits depth one (at 0 one (omega arith)) in omega (arith, first.1)
          by (one ∷ these) (child ∷ those) at after some =
              let first = fits depth one (at 0 one (omega arith)) in
              let second = fits (depth + 1) child (after 0 child (omega arith)) in
              omega (arith, first.0, first.1, second.0, second.1)
