use Rattle.std.proofs.Common.{◌≡◌, ◌+◌, ◌-◌, ◌*◌, ◌<◌, ◌≤◌, ◌/◌, ◌%◌, min, Ok, ◌++◌, length, ap, sym, subst, ◌∙◌, arith, rules}
use Rattle.std.proofs.lemmas.Result.{IfOk-weaker}
use Rattle.std.proofs.lemmas.Grind.{div_ceil_times}
use Rattle.std.proofs.lemmas.List.{length-map}
use Rattle.std.specs.List.{flat_map}
use Rattle.par_scan.specs.Parts.{IsFilled}
use Rattle.par_scan.proofs.Parts.{Each-threads, IsFilled-AreMade, IsFilled-parts, some-size}
use Rattle.par_scan.proofs.making.make_all.Goals as goal

pub returns : goal.returns
returns g c =
    let maker = c.args.maker.now in
    let gives = g.K.Make.gives in
    let n = c.args.n in
    let size = c.div_ceil-size.result in
    let made = c.in_ok-made.made.items in
    let some : 0 < size = some-size n c.args.parts size (search rules) c.requires.some_part (search rules) in
    let each = Each-threads _ _ (λ part each. IsFilled (gives maker) (part * size) (min size (n - part * size)) each.items) c.div_ceil.result
    c.in_ok-results.results.items made (search rules) c.in_ok-results.ensures.each (λ part r post. search rules) c.in_ok-made.ensures in
    let results : length c.in_ok-results.results.items ≡ c.div_ceil.result = search rules in
    let len : length made ≡ c.div_ceil.result = sym (ap length c.in_ok-made.ensures ∙ length-map made Ok) ∙ results in
    let count : c.div_ceil.result ≡ n / size + min 1 (n % size) = c.div_ceil.ensures in
    let covers : n ≤ length made * size = subst (λ k. n ≤ k * size) (sym (len ∙ count)) (div_ceil_times n size some).0 in
    let all : IsFilled (gives maker) 0 n (flat_map (λ each. each.items) made) =
    IsFilled-parts (gives maker) (λ each. each.items) size n made covers (λ part d below. each part d (omega arith)) in
    let whole = ap (λ l. l ++ flat_map (λ each. each.items) made) c.new-2.ensures.items in
    record {
      len = IfOk-weaker c.append_all.result _ _
          (λ v is.
          let same : length v.items ≡ n = (subst (IsFilled (gives maker) 0 n) (sym (is ∙ whole)) all).len in
          search rules)
          c.append_all.ensures;
      made = IfOk-weaker c.append_all.result _ _
          (λ v is. IsFilled-AreMade gives maker n v.items (subst (IsFilled (gives maker) 0 n) (sym (is ∙ whole)) all))
          c.append_all.ensures;
    }
