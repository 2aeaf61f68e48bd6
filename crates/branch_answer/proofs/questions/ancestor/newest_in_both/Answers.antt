use Rattle.std.proofs.Common.{◌≡◌, ◌∙◌, Some, true, arith, sym, ap}
use Rattle.std.proofs.lemmas.Bool.{both_ways}
use Rattle.std.proofs.lemmas.Option.{none-some, same_Some}
use Rattle.svn_path.proofs.Belows.{IsSame-same_name, same_path-is}
use Rattle.svn_path.proofs.Orders.{pointwise-same_path}
use Rattle.svn_path.specs.Below.{same_path}
use Rattle.svn_path.specs.Path.{same_name}
use Rattle.branch_answer.proofs.questions.ancestor.newest_in_both.Goals.{in_default-via-in-Some-Some+else-eq, in_default-via-in-Some+in_default, in_default-via-in_default}
use Rattle.branch_answer.proofs.questions.ancestor.newest_in_both.Goals as goal

pub returns-in-Some-Some : goal.returns-in-Some-Some
returns-in-Some-Some c =
    let path = c.in-Some-Some.path in
    let other_path = c.in-Some-Some.other_path in
    let same : same_path same_name path other_path ≡ true = sym (pointwise-same_path same_name path other_path) ∙ sym c.eq.ensures ∙ c.if-eq.true in
    record {
      in_one = record { from = omega arith; to = omega arith };
      in_other = record { from = omega arith; to = omega arith };
      newest = λ later in_one in_other. omega (arith, in_one.to, in_other.to);
      path_of_one = c.in-Some-Some.is-0;
      path_of_other = c.in-Some-Some.is-1 ∙ ap Some (sym ((same_path-is IsSame-same_name path other_path).0 same));
    }

pub returns-in_default : goal.returns-in_default
returns-in_default c rev path in_one in_other is other_is = elim c.in_default.branch [
  | in_default-via-in-Some-Some+else-eq w ↦
      let own = w.in-Some-Some.path in
      let other = w.in-Some-Some.other_path in
      let same : own ≡ other = same_Some own path (sym w.in-Some-Some.is-0 ∙ is) ∙ sym (same_Some other path (sym w.in-Some-Some.is-1 ∙ other_is)) in
      both_ways (same_path same_name own other) (sym (pointwise-same_path same_name own other) ∙ sym w.eq.ensures ∙ w.if-eq.false) ((same_path-is IsSame-same_name own other).1 same)
  | in_default-via-in-Some+in_default w ↦ none-some path (sym w.in_default.is-1 ∙ other_is)
  | in_default-via-in_default w ↦ none-some path (sym w.in_default.is-0 ∙ is)
]
