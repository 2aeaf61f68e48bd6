use Rattle.query_answer.proofs.Common.{◌<◌, ap, ap₂, refl, subst, ◌∙◌, arith, length, false_from_ne_true, HasDot, parts_of, HasUnknown, Peg, peg_view, trees_in_bytes}
use Rattle.svn_path.specs.Lookup.{IsLookup}
use Rattle.svn_path.specs.declared.path.Lookup.TheVariants.{Known}
use Rattle.svn_path.proofs.Components.{components-parts_of}
use Rattle.query_answer.proofs.AnswerTexts.{IsRepo-view, if_peg_exists-late, if_peg_exists-absent}
use Rattle.query_answer.proofs.InBytes.{length-trees_in_bytes, unknown-in_bytes}
use Rattle.query_answer.proofs.RevisionTicks.{IsEndIn-at, length-ends}
use Rattle.query_answer.proofs.repo.Repo.look_up.Goals as goal

pub at-requires : goal.at-requires
at-requires c =
    let all = length-ends c.self.inside.dump c.self.inside.index c.self.inside.map c.self.inside.ends c.self.invariant in
    omega (arith, c.if-rev-counts.false, ap length c.counts.ensures.value, all)

pub returns-then-rev-counts-clause-refused : goal.returns-then-rev-counts-clause-refused
returns-then-rev-counts-clause-refused c =
    let dump = c.args.self.now in
    let repo = IsRepo-view c.self.inside.dump dump c.self.inside.index c.self.inside.map c.self.inside.ends c.self.view_is c.self.invariant in
    let counts = c.counts.ensures.value ∙ ap (λ each. each.counts) c.self.view_is in (
      λ answer. if_peg_exists-late (trees_in_bytes dump) (peg_view c.args.peg.now) answer
          (omega (arith, c.if-rev-counts.true, c.rev-rev.ensures, ap length counts, length-trees_in_bytes dump repo.dump_is)),
      refl,
    )

pub returns-then-rev-counts-clause-nowhere : goal.returns-then-rev-counts-clause-nowhere
returns-then-rev-counts-clause-nowhere c =
    let dump = c.args.self.now in
    let repo = IsRepo-view c.self.inside.dump dump c.self.inside.index c.self.inside.map c.self.inside.ends c.self.view_is c.self.invariant in
    let counts = c.counts.ensures.value ∙ ap (λ each. each.counts) c.self.view_is in
    omega (arith, c.if-rev-counts.true, c.rev-rev.ensures, ap length counts, length-trees_in_bytes dump repo.dump_is)

pub returns-in-Known-clause-known : goal.returns-in-Known-clause-known
returns-in-Known-clause-known c =
    let dump = c.args.self.now in
    let rev = c.rev-rev.result in
    let repo = IsRepo-view c.self.inside.dump dump c.self.inside.index c.self.inside.map c.self.inside.ends c.self.view_is c.self.invariant in
    let counts = c.counts.ensures.value ∙ ap (λ each. each.counts) c.self.view_is in
    let within : rev < length dump.counts = omega (arith, c.if-rev-counts.false, ap length counts) in
    let names = c.names.ensures.value ∙ ap (λ each. each.names) c.self.view_is in
    let known : IsLookup dump.names (parts_of c.args.peg.now.path) (Known c.in-Known.path) =
    subst (λ bytes. IsLookup dump.names (parts_of bytes) (Known c.in-Known.path)) c.path.ensures.value
    (subst (λ all. IsLookup all (parts_of c.path.result.now) (Known c.in-Known.path)) names (rw c.in-Known.is at c.in_ok-lookup.ensures)) in
    record {
      of_names = known.0;
      spells = ap₂ (λ parts n. let one : Peg = record { path = parts; rev = n } in one) known.1 c.rev-rev.ensures;
      ends = IsEndIn-at dump c.self.inside.index c.self.inside.map c.self.inside.ends repo rev within c.at.result c.at.ensures;
    }

pub returns-in-Unknown-clause-refused : goal.returns-in-Unknown-clause-refused
returns-in-Unknown-clause-refused c =
    let dump = c.args.self.now in
    let rev = c.args.peg.now.rev in
    let repo = IsRepo-view c.self.inside.dump dump c.self.inside.index c.self.inside.map c.self.inside.ends c.self.view_is c.self.invariant in
    let counts = c.counts.ensures.value ∙ ap (λ each. each.counts) c.self.view_is in
    let within : rev < length dump.counts = omega (arith, c.if-rev-counts.false, c.rev-rev.ensures, ap length counts) in
    let names = c.names.ensures.value ∙ ap (λ each. each.names) c.self.view_is in
    let unknown : HasUnknown dump.names (parts_of c.args.peg.now.path) =
    subst (λ bytes. HasUnknown dump.names (parts_of bytes)) c.path.ensures.value
    (subst (λ all. HasUnknown all (parts_of c.path.result.now)) names (rw c.in-Unknown.is at c.in_ok-lookup.ensures)) in (
      λ answer.
          if_peg_exists-absent (trees_in_bytes dump) (peg_view c.args.peg.now) answer
          (omega (arith, length-trees_in_bytes dump repo.dump_is, within))
          (unknown-in_bytes dump repo.dump_is _ rev
          (components-parts_of c.args.peg.now.path (false_from_ne_true _ (subst (λ bytes. HasDot bytes → ⊥) c.path.ensures.value c.path.ensures.no_dot))) unknown),
      refl,
    )

pub returns-in-Unknown-clause-nowhere : goal.returns-in-Unknown-clause-nowhere
returns-in-Unknown-clause-nowhere c =
    let dump = c.args.self.now in
    let repo = IsRepo-view c.self.inside.dump dump c.self.inside.index c.self.inside.map c.self.inside.ends c.self.view_is c.self.invariant in
    let counts = c.counts.ensures.value ∙ ap (λ each. each.counts) c.self.view_is in
    let names = c.names.ensures.value ∙ ap (λ each. each.names) c.self.view_is in
    let unknown : HasUnknown dump.names (parts_of c.args.peg.now.path) =
    subst (λ bytes. HasUnknown dump.names (parts_of bytes)) c.path.ensures.value
    (subst (λ all. HasUnknown all (parts_of c.path.result.now)) names (rw c.in-Unknown.is at c.in_ok-lookup.ensures)) in
    record {
      within = omega (arith, c.if-rev-counts.false, c.rev-rev.ensures, ap length counts, length-trees_in_bytes dump repo.dump_is);
      nowhere = λ rev. unknown-in_bytes dump repo.dump_is _ rev
          (components-parts_of c.args.peg.now.path (false_from_ne_true _ (subst (λ bytes. HasDot bytes → ⊥) c.path.ensures.value c.path.ensures.no_dot))) unknown;
    }
