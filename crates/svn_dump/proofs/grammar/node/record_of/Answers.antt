use Rattle.svn_dump.proofs.Common.{pred, err_from_is_err_and, record_of, node_action_view, node_of_front, mi_text_view, is_record_large}
use Rattle.svn_dump.proofs.Nodes.{dotless-taken, IsFirst-path, IsFirst-action, IsRecordTold-taken}
use Rattle.svn_dump.proofs.grammar.node.record_of.Goals as goal

pub returns-in_err-rev-clause-refused : goal.returns-in_err-rev-clause-refused
returns-in_err-rev-clause-refused c =
    let (error, errs, same) = err_from_is_err_and c.from_residual.result c.from_residual.ensures.1 in
    rw (errs, same) (c.in_err-rev.ensures.refused (is_record_large c.args.names.now c.args.texts.now (record_of (pred c.args.revisions) (node_of_front c.args.found.now c.args.path.now))))

pub path_of-requires : goal.path_of-requires
path_of-requires c = (dotless-taken c.args.revisions (node_of_front c.args.found.now c.args.path.now) c.in_ok-rev.rev (node_action_view c.in_ok-rev.action) (mi_text_view c.in_ok-rev.mergeinfo) c.in_ok-rev.ensures.ok).0

pub returns-in_err-path-clause-refused : goal.returns-in_err-path-clause-refused
returns-in_err-path-clause-refused c =
    let (error, errs, same) = err_from_is_err_and c.from_residual-in_err-path.result c.from_residual-in_err-path.ensures.1 in
    rw (errs, same) (IsFirst-path c.args.revisions (node_of_front c.args.found.now c.args.path.now) c.in_ok-rev.rev (node_action_view c.in_ok-rev.action) (mi_text_view c.in_ok-rev.mergeinfo) c.in_ok-rev.ensures.ok c.args.names.now c.args.texts.now c.in_err-path.field-0.0 c.in_err-path.ensures.refused)

pub act_of-requires : goal.act_of-requires
act_of-requires c = (dotless-taken c.args.revisions (node_of_front c.args.found.now c.args.path.now) c.in_ok-rev.rev (node_action_view c.in_ok-rev.action) (mi_text_view c.in_ok-rev.mergeinfo) c.in_ok-rev.ensures.ok).1

pub returns-in_err-act-clause-refused : goal.returns-in_err-act-clause-refused
returns-in_err-act-clause-refused c =
    let (error, errs, same) = err_from_is_err_and c.from_residual-in_err-act.result c.from_residual-in_err-act.ensures.1 in
    rw (errs, same) (IsFirst-action c.args.revisions (node_of_front c.args.found.now c.args.path.now) c.in_ok-rev.rev (node_action_view c.in_ok-rev.action) (mi_text_view c.in_ok-rev.mergeinfo) c.in_ok-rev.ensures.ok c.args.names.now c.path_of.new.names c.args.texts.now c.in_err-act.field-0.0 c.in_ok-path.ensures.path.table c.in_err-act.ensures.refused)

pub returns-clause-record : goal.returns-clause-record
returns-clause-record c =
    IsRecordTold-taken c.args.revisions (node_of_front c.args.found.now c.args.path.now) c.in_ok-rev.rev (node_action_view c.in_ok-rev.action) (mi_text_view c.in_ok-rev.mergeinfo) c.in_ok-rev.ensures.ok c.args.names.now c.path_of.new.names c.act_of.new.names c.args.texts.now c.act_of.new.texts c.in_ok-path.path c.in_ok-act.act
    c.in_ok-path.ensures.path c.in_ok-path.ensures.short (c.in_ok-act.ensures.act (pred c.args.revisions)) c.in_ok-act.ensures.short c.in_ok-act.ensures.texts c.act_of.ensures.grows
