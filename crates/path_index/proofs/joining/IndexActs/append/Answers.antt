use Rattle.path_index.proofs.Common.{◌≡◌, ◌+◌, ◌^◌, ◌<◌, ◌++◌, length, sym, ap, subst, ◌∙◌, append_assoc, arith, length-append, AreByPath}
use Rattle.path_index.specs.Joining.{put_records_before, records_before, records_up_to_end}
use Rattle.path_index.proofs.joining.IndexActs.append.Goals as goal

pub invariant_of-result : goal.invariant_of-result
invariant_of-result c =
    let records = c.self.inside.records in
    let more = c.later.inside.records in
    let meets : c.self.inside.first + length records ≡ c.later.inside.first = ap records_up_to_end c.self.view_is ∙ c.requires.meet.0 ∙ ap records_before (sym c.later.view_is) in
    let few : c.self.inside.first + length (records ++ more) < 2 ^ 32 = omega (arith, length-append records more, meets, c.later.invariant.1) in
    let by_path = c.in_ok-append-2.field-0 in
    let both : AreByPath (records ++ more) by_path = c.in_ok-append-2.ensures records more (sym c.len-count.ensures) (omega (arith, few, length-append records more)) c.self.invariant.0 c.later.invariant.0 in
    subst (λ kept. AreByPath kept by_path × (c.self.inside.first + length kept < 2 ^ 32)) (sym c.in_ok-append.ensures) (both, few)

pub returns : goal.returns
returns c =
    let records = c.self.inside.records in
    let more = c.later.inside.records in
    let first = c.self.view_is in
    let second = c.later.view_is in
    let meets : c.self.inside.first + length records ≡ c.later.inside.first = ap records_up_to_end first ∙ c.requires.meet.0 ∙ ap records_before (sym second) in
    record {
      some = omega arith;
      acts = λ point.
          ap (λ all. all ++ point) c.in_ok-append.ensures ∙ append_assoc records more point
          ∙ ap (λ index. put_records_before index (more ++ point)) first ∙ ap (λ index. put_records_before c.args.self (put_records_before index point)) second;
      begins = λ d. ap records_before first;
      ends = λ d.
          let long = ap length c.in_ok-append.ensures in
          let all : c.self.inside.first + length c.in_ok-append.field-0 ≡ c.later.inside.first + length more = omega (arith, meets, long, length-append records more) in
          all ∙ ap records_up_to_end second;
    }
