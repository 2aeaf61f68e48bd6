use Rattle.svn_dump.proofs.Common.{◌++◌, ◌∷◌, sym}
use Rattle.svn_dump.proofs.Blocks.{BeginsWithLines-append, refused-length, BeginsWithBlock-body}
use Rattle.svn_dump.proofs.Fronts.{header_lines-empty}
use Rattle.svn_dump.proofs.grammar.block.first_block.Goals as goal

pub returns-in_default-lengths_of-clause-refused : goal.returns-in_default-lengths_of-clause-refused
returns-in_default-lengths_of-clause-refused c = λ more.
    let rest = c.in-Some.rest.now in
    let values = c.in_ok-headers.headers in
    let found = BeginsWithLines-append c.args.bytes.now values (10 ∷ rest) more (rw c.in-Some.is at c.in_ok-headers.ensures.headers) in
    refused-length (c.args.bytes.now ++ more) values (10 ∷ (rest ++ more)) found (header_lines-empty (rest ++ more)) (sym c.in_default-lengths_of.ensures.whole)

pub returns-clause-found : goal.returns-clause-found
returns-clause-found c =
    let said = c.in-Some-lengths_of.ensures in
    rw (c.split_at-2.ensures.front, c.split_at.ensures.front, c.split_at.ensures.back)
    (BeginsWithBlock-body c.args.bytes.now c.in_ok-headers.headers c.in-Some.rest.now c.in-Some-lengths_of.section c.in-Some-lengths_of.whole
    c.requires.not_empty_line (rw c.in-Some.is at c.in_ok-headers.ensures.headers) (sym said.whole) said.section said.within c.if-whole-rest.false)
