-- The paths below a path that have mergeinfo of their own, one after another.
use Rattle.std.proofs.Common.{◌≡◌, ◌∙◌, ℕ, Bool, true, false, inl, inr, not, All, List, [], ◌∷◌, ◌++◌, refl, sym, ap, subst, arith, append_assoc, append-nil, bytes_eq, filter, length, map, if◌then◌else◌}
use Rattle.std.specs.Cmp.Lexicographic.{pointwise}
use Rattle.std.proofs.lemmas.Bool.{both_ways, cases_Bool, false_from_ne_true}
use Rattle.std.proofs.lemmas.List.{get_or_at, length-append, map-append}
use Rattle.std.proofs.lemmas.List.Elements.{All-nil, All-push, filter-append}
use Rattle.svn_path.proofs.Components.{parts_of-path_text}
use Rattle.svn_path.proofs.Orders.{paths_eq-Decides}
use Rattle.svn_path.proofs.Tables.{components_of-components, components_of-same}
use Rattle.svn_path.specs.Components.{parts_of, path_text}
use Rattle.svn_path.specs.Path.{IsPathOf, components_of, same_name}
use Rattle.svn_path.specs.declared.names.NameId.{NameId}
use Rattle.svn_dump.specs.Dump.{DumpValue, IsDump}
use Rattle.query_answer.proofs.StandingsInBytes.{IsSame-bytes_eq}
use Rattle.query_answer.specs.declared.target.PathRev.{PathRev}
use Rattle.branch_answer.specs.HeldRevisions.{AreBelow}
use Rattle.branch_answer.specs.KeptExplicit.{AreExplicitIn, HasOwnText, explicit_text}

All-middle : {X : Type 0} (P : X → Type 0) (front : List X) (x : X) (back : List X) → All P (front ++ x ∷ back) → P x
All-middle P front x back all =
    subst P (get_or_at front x back x (length front) refl) (all (length front) x (omega (arith, length-append front (x ∷ back))))

module _ (dump : DumpValue) (at : PathRev) where
  abbrev text : List NameId → List ℕ
  text path = path_text (components_of dump.names path)

  -- another path than this one
  abbrev is_other : List ℕ × List ℕ → Bool
  is_other each = not (bytes_eq each.0 (text at.path))

  -- those of the first paths are found, and the others are left
  pub record AreBelowOf (done left below : List (List NameId)) : Type 0 where
    pub explicit : AreExplicitIn dump at.path at.rev (done ++ left)
    pub names : All (IsPathOf dump.names) below
    pub own : All (HasOwnText dump at.rev) below
    pub are : filter is_other (map (explicit_text dump at.rev) done) ≡ map (explicit_text dump at.rev) below

module _ (dump : DumpValue) (kept : IsDump dump) (at : PathRev) (of_names : IsPathOf dump.names at.path) where
  is_other-path : (path : List NameId) → IsPathOf dump.names path → is_other dump at (explicit_text dump at.rev path) ≡ not (pointwise same_name path at.path)
  is_other-path path of = elim (cases_Bool (pointwise same_name path at.path)) [
    | inl same ↦
        let is : path ≡ at.path = (paths_eq-Decides path at.path).0 same in
        ap not (ap (λ one. bytes_eq (text dump at one) (text dump at at.path)) is ∙ IsSame-bytes_eq.itself (text dump at at.path) ∙ sym same)
    | inr other ↦
        ap not (false_from_ne_true (bytes_eq (text dump at path) (text dump at at.path)) (λ same.
        both_ways _ other ((paths_eq-Decides path at.path).1
        (components_of-same kept.names path at.path
        (sym (parts_of-path_text (components_of dump.names path) (components_of-components dump.names path kept.names.components of))
        ∙ ap parts_of (IsSame-bytes_eq.true_is (text dump at path) (text dump at at.path) same)
        ∙ parts_of-path_text (components_of dump.names at.path) (components_of-components dump.names at.path kept.names.components of_names)))))
        ∙ sym other)
  ]

  pub AreBelowOf-start : (paths : List (List NameId)) → AreExplicitIn dump at.path at.rev paths → AreBelowOf dump at [] paths []
  AreBelowOf-start paths explicit = record { explicit = explicit; names = All-nil (IsPathOf dump.names); own = All-nil (HasOwnText dump at.rev); are = refl }

  pub AreBelowOf-all : (done below : List (List NameId)) → AreBelowOf dump at done [] below → AreBelow dump at below
  AreBelowOf-all done below so = record {
    of_names = so.names;
    own = so.own;
    are = ap (filter (is_other dump at)) (so.explicit.are ∙ ap (map (explicit_text dump at.rev)) (append-nil done)) ∙ so.are;
  }

  module _ (done left below : List (List NameId)) (path : List NameId) (so : AreBelowOf dump at done (path ∷ left) below) where
    of_path : IsPathOf dump.names path
    of_path = All-middle (IsPathOf dump.names) done path left so.explicit.of_names

    own_path : HasOwnText dump at.rev path
    own_path = All-middle (HasOwnText dump at.rev) done path left so.explicit.own

    one_more : filter (is_other dump at) (map (explicit_text dump at.rev) (done ++ path ∷ []))
        ≡ map (explicit_text dump at.rev) below ++ (if not (pointwise same_name path at.path) then explicit_text dump at.rev path ∷ [] else [])
    one_more =
        ap (filter (is_other dump at)) (map-append (explicit_text dump at.rev) done (path ∷ []))
        ∙ filter-append (is_other dump at) (map (explicit_text dump at.rev) done) (explicit_text dump at.rev path ∷ [])
        ∙ (λ i. so.are i ++ (if is_other-path path of_path i then explicit_text dump at.rev path ∷ [] else []))

    still : AreExplicitIn dump at.path at.rev ((done ++ path ∷ []) ++ left)
    still = subst (AreExplicitIn dump at.path at.rev) (sym (append_assoc done (path ∷ []) left)) so.explicit

    pub AreBelowOf-skip : pointwise same_name path at.path ≡ true → AreBelowOf dump at (done ++ path ∷ []) left below
    AreBelowOf-skip same = record {
      explicit = still;
      names = so.names;
      own = so.own;
      are = one_more ∙ ap (λ b. map (explicit_text dump at.rev) below ++ (if not b then explicit_text dump at.rev path ∷ [] else [])) same ∙ append-nil (map (explicit_text dump at.rev) below);
    }

    pub AreBelowOf-push : pointwise same_name path at.path ≡ false → AreBelowOf dump at (done ++ path ∷ []) left (below ++ path ∷ [])
    AreBelowOf-push other = record {
      explicit = still;
      names = All-push (IsPathOf dump.names) below path so.names of_path;
      own = All-push (HasOwnText dump at.rev) below path so.own own_path;
      are = one_more ∙ ap (λ b. map (explicit_text dump at.rev) below ++ (if not b then explicit_text dump at.rev path ∷ [] else [])) other
          ∙ sym (map-append (explicit_text dump at.rev) below (path ∷ []));
    }
