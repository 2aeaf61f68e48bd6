use Rattle.std.proofs.Common.{rules, tests, ◌≡◌, true, false, get_or, drop, add-zero, arith}
use Rattle.std.proofs.lemmas.Iterator.{IsFirst-from_position, YieldsList-from_slice}
use Rattle.std.proofs.lemmas.List.{get_or-drop}
use Rattle.std.proofs.lemmas.Option.{MatchOption-at_some, MatchOption-at_none}
use Rattle.svn_path.specs.Components.{is_slash}
use Rattle.svn_path.proofs.Components.{parts_of-start, parts_of-slashes, parts_of-found}
use Rattle.svn_path.proofs.parts.next_part.Goals as goal

pub returns-in_default-clause-none : goal.returns-in_default-clause-none
returns-in_default-clause-none c =
    let bytes = c.args.bytes.now in
    let first = IsFirst-from_position _ _ c.position.result (λ b. is_slash b ≡ false) (λ b. is_slash b ≡ true) c.position.ensures.ran (YieldsList-from_slice bytes cc) (λ x q k. search (rules, tests)) (λ x q k. search (rules, tests)) in
    let none = MatchOption-at_none _ _ c.in_default.is first in
    parts_of-slashes bytes (λ k below. none k 0 (omega arith) below)

pub returns-clause-part : goal.returns-clause-part
returns-clause-part c =
    let bytes = c.args.bytes.now in
    let start = c.in-Some.start in
    let rest = c.split_at.result.1.now in
    let first = IsFirst-from_position _ _ c.position.result (λ b. is_slash b ≡ false) (λ b. is_slash b ≡ true) c.position.ensures.ran (YieldsList-from_slice bytes cc) (λ x q k. search (rules, tests)) (λ x q k. search (rules, tests)) in
    let at = MatchOption-at_some _ _ start c.in-Some.is first in
    let back : rest ≡ drop start bytes = c.split_at.ensures.back in
    let skipped = parts_of-start bytes start (λ k below. at.2 k 0 (omega arith) below) in
    let head : is_slash (get_or rest 0 0) ≡ false = rw (back, get_or-drop start bytes 0 0, add-zero) (at.1 0) in
    let cut = parts_of-found rest c.memchr.result c.memchr.ensures (omega (arith, c.split_at.ensures.back_len)) head in
    cc
