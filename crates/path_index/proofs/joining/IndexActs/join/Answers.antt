use Rattle.path_index.proofs.Common.{ap, ◌∙◌, IfOk-weaker}
use Rattle.path_index.specs.Joining.{put_records_before}
use Rattle.path_index.proofs.joining.IndexActs.join.Goals as goal

pub returns : goal.returns
returns c =
    let one = c.in_ok-dup.ensures in
    let other = c.in_ok-dup-2.ensures in
    IfOk-weaker c.append.result _ _
    (λ joined are. record {
      some = are.some;
      acts = λ point. are.acts point ∙ one.acts (put_records_before c.in_ok-dup-2.field-0 point) ∙ ap (put_records_before c.args.self.now) (other.acts point);
      begins = λ d. are.begins d ∙ one.begins;
      ends = λ d. are.ends d ∙ other.ends;
    })
    c.append.ensures
