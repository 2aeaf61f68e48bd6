use Rattle.path_index.proofs.Common.{◌≡◌, ◌≤◌, ℕ, List, Bool, true, false, true≢false, IsSome, length, if◌then◌else◌, refl, sym, subst, ◌∙◌, arith, list_any, cond-true, NameId, child_of, same_child, HaveParentsBefore, Child}
use Rattle.path_index.proofs.NodesOfPaths.{child_of-any, HaveParentsBefore-insert}
use Rattle.path_index.proofs.nodes.Nodes.add.Goals as goal

known_any : (children old : List Child) (parent : ℕ) (name : NameId) → children ≡ old
    → IsSome (child_of old parent name)
    → list_any (same_child (record { parent = parent; name = name })) children ≡ true
known_any children old parent name same known =
    child_of-any children parent name (rw same known)

one_at_most : (b : Bool) → (if b then 1 else 0) ≤ 1
one_at_most true = omega arith
one_at_most false = omega arith

pub returns-in_err-index-clause-known : goal.returns-in_err-index-clause-known
returns-in_err-index-clause-known c known =
    let there = known_any c.self.inside.children.keys c.args.self.now c.args.parent c.args.name c.self.view_is known in
    absurd (true≢false (sym there ∙ c.in_err-index.ensures.absent))

pub invariant_of-self-2 : goal.invariant_of-self-2
invariant_of-self-2 c =
    let keys = c.self.inside.children.keys in
    let child : Child = record { parent = c.args.parent; name = c.args.name } in
    let below : child.parent ≤ length keys = rw c.self.view_is c.requires in
    let so = c.in_ok-index.ensures in
    let most = one_at_most c.in_ok-index.field-0-1 in (
      omega (arith, so.len, most, c.if-len.false, c.len.ensures.len, c.self.invariant.0),
      subst HaveParentsBefore (sym so.keys) (HaveParentsBefore-insert keys child below c.self.invariant.1),
    )

pub returns-clause-known : goal.returns-clause-known
returns-clause-known c known =
    let there = known_any c.self.inside.children.keys c.args.self.now c.args.parent c.args.name c.self.view_is known in
    (refl, c.in_ok-index.ensures.keys ∙ cond-true _ _ _ there ∙ c.self.view_is)
