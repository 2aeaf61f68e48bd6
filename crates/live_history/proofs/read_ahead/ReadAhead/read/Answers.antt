use Rattle.live_history.proofs.Common.{◌≡◌, ◌==◌, ◌++◌, [], inl, inr, refl, sym, ap, subst, ◌∙◌, arith, drop, take, rules, Consumes, prepend_known, drop-append-le, err_from_is_err_and}
use Rattle.live_history.proofs.ReadAheads.{Consumes-ahead, Consumes-piece, Consumes-unread, Consumes-unread-kept, Consumes-unread-more, one_at_most}
use Rattle.live_history.proofs.read_ahead.ReadAhead.read.Goals as goal

pub returns-then-self-eq0-clause-error : goal.returns-then-self-eq0-clause-error
returns-then-self-eq0-clause-error g c =
    let input = g.C.Client.input c.args.client.now in
    record {
      rest = c.args.self.now.unread;
      read = record { bytes = Consumes-unread c.args.self.now.unread input.left; once = omega arith; ends = omega arith; failures = omega arith; few = omega arith };
      why = inl (record {
        is = refl;
        all = refl;
        unread_is = record { no_end = refl; why = inr (omega (arith, ap (λ each. each.reads) c.self.view_is, c.if-self-eq0.true)) };
      });
    }

pub returns-in_err-forget-clause-error : goal.returns-in_err-forget-clause-error
returns-in_err-forget-clause-error g c =
    let input = g.C.Client.input c.args.client.now in
    let told = err_from_is_err_and c.from_residual.result c.from_residual.ensures.1 in
    rw (told.1, told.2) (record {
      rest = c.args.self.now.unread;
      read = record { bytes = Consumes-unread c.args.self.now.unread input.left; once = omega arith; ends = omega arith; failures = omega arith; few = omega arith };
      why = inr refl;
    })

pub returns-in-Err-clause-error : goal.returns-in-Err-clause-error
returns-in-Err-clause-error g c =
    let input = g.C.Client.input c.args.client.now in
    let after = g.C.Client.input c.read.new.self in
    record {
      rest = c.args.self.now.unread;
      read = record {
        bytes = Consumes-unread-kept c.args.self.now.unread input.left after.left c.in-Err.ensures.bytes;
        once = omega (arith, c.in-Err.ensures.ends, c.in-Err.ensures.failures);
        ends = omega (arith, c.in-Err.ensures.ends);
        failures = omega (arith, c.in-Err.ensures.failures);
        few = omega (arith, c.in-Err.ensures.counted, ap (λ each. each.reads) c.self.view_is, c.if-self-eq0.false);
      };
      why = inl (record {
        is = refl;
        all = refl;
        unread_is = record { no_end = search (rules, c.in-Err.ensures.ends); why = inl (search (rules, c.in-Err.ensures.failed)) };
      });
    }

pub returns-in_err-extend_from_slice-in-Ok-clause-error : goal.returns-in_err-extend_from_slice-in-Ok-clause-error
returns-in_err-extend_from_slice-in-Ok-clause-error g c =
    let input = g.C.Client.input c.args.client.now in
    let after = g.C.Client.input c.read.new.self in
    let told = err_from_is_err_and c.from_residual-in_err-extend_from_slice-in-Ok.result c.from_residual-in_err-extend_from_slice-in-Ok.ensures.1 in
    rw (told.1, told.2) (record {
      rest = c.args.self.now.unread ++ take c.in-Ok.count c.read.new.slice;
      read = record {
        bytes = Consumes-unread-more c.args.self.now.unread (take c.in-Ok.count c.read.new.slice) input.left after.left c.in-Ok.ensures.bytes.0;
        once = omega (arith, c.in-Ok.ensures.ends, c.in-Ok.ensures.failures, one_at_most (c.in-Ok.count == 0));
        ends = omega (arith, c.in-Ok.ensures.ends, one_at_most (c.in-Ok.count == 0));
        failures = omega (arith, c.in-Ok.ensures.failures);
        few = omega (arith, c.in-Ok.ensures.counted, ap (λ each. each.reads) c.self.view_is, c.if-self-eq0.false);
      };
      why = inr refl;
    })

pub returns-in_ok-extend_from_slice-in-Ok-clause-taken : goal.returns-in_ok-extend_from_slice-in-Ok-clause-taken
returns-in_ok-extend_from_slice-in-Ok-clause-taken g c = λ some.
    let input = g.C.Client.input c.args.client.now in
    let after = g.C.Client.input c.read.new.self in
    let before = c.args.self.now.unread in
    let given = take c.in-Ok.count c.deref.result.now in
    let is : Consumes input.left after.left given =
    rw c.deref.ensures.value (Consumes-piece input.left after.left c.in-Ok.count c.self-2.inside.piece.len c.read.new.slice _ c.in-Ok.ensures.bound (search rules) c.in-Ok.ensures.bytes.0) in
    let same = c.self-2.view_is ∙ c.in_ok-forget.ensures in
    let unread : drop c.self-2.inside.taken c.extend_from_slice.new.self.items ≡ before ++ given =
    ap (drop c.self-2.inside.taken) c.in_ok-extend_from_slice-in-Ok.ensures.items
    ∙ drop-append-le c.self-2.inside.taken c.self-2.inside.bytes.items given (omega (arith, c.self-2.invariant.0))
    ∙ ap (λ front. front ++ given) (ap (λ each. each.unread) same ∙ ap (λ each. each.unread) c.self.view_is) in
    record {
      bytes = subst (λ front. Consumes (prepend_known before input.left) (prepend_known front after.left) []) (sym unread) (Consumes-ahead before given input.left after.left is);
      limit = omega (arith, c.in-Ok.ensures.counted, ap (λ each. each.reads) same, ap (λ each. each.reads) c.self.view_is, c.if-self-eq0.false);
      ends = search (rules, some, c.in-Ok.ensures.ends);
      failures = search (rules, c.in-Ok.ensures.failures);
    }
