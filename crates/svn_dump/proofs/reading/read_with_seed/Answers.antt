use Rattle.svn_dump.proofs.Common.{rules, ◌≡◌, [], err_from_is_err_and}
use Rattle.svn_dump.specs.declared.error.DumpError.TheVariants as dump
use Rattle.svn_dump.proofs.Feeds.{IsRefusal-decided, first_line-memory}
use Rattle.svn_dump.proofs.FirstRefusals.{exactly, one_history}
use Rattle.svn_dump.proofs.Formats.{formats_agree}
use Rattle.svn_dump.proofs.Sections.{section_of-both}
use Rattle.svn_dump.proofs.reading.read_with_seed.Goals as goal

pub returns-in_err-feed : goal.returns-in_err-feed
returns-in_err-feed c =
    let bytes = c.args.bytes.now in
    let (error, errs, same) = err_from_is_err_and c.from_residual.result c.from_residual.ensures.1 in
    let decided = c.in_err-feed.ensures.decided [] c.with_seed-feed.ensures.read in
    rw (errs, same) (record {
      exactly = exactly bytes;
      one = one_history bytes;
      sections = section_of-both;
      formats = formats_agree;
      ok = tt;
      names = tt;
      values = tt;
      refused = IsRefusal-decided bytes c.in_err-feed.field-0.0 decided;
      memory = λ is. first_line-memory bytes c.in_err-feed.field-0.0 decided (let one : c.in_err-feed.field-0.0 ≡ dump.Memory = cc in one);
    })

pub returns : goal.returns
returns c =
    let bytes = c.args.bytes.now in
    record {
      exactly = exactly bytes;
      one = one_history bytes;
      sections = section_of-both;
      formats = formats_agree;
      ok = search rules;
      names = search rules;
      values = search rules;
      refused = search rules;
      memory = search rules;
    }
