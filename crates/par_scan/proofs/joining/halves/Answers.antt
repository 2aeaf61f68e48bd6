use Rattle.std.proofs.Common.{◌≡◌, ℕ, List, ◌++◌, take, drop, sym, ap, ◌∙◌, rules, take-append-drop}
use Rattle.par_scan.proofs.Chains.{IsChain-drop, IsChain-take}
use Rattle.par_scan.proofs.joining.halves.Goals as goal

whole : {M : Type 0} (k : ℕ) (items front back : List M) → front ≡ take k items → back ≡ drop k items → items ≡ front ++ back
whole k items front back f b = sym (ap (λ x. x ++ back) f ∙ ap (λ y. take k items ++ y) b ∙ take-append-drop k items)

pub returns : goal.returns
returns g c =
    let m = g.M.Acts in
    let items = c.args.items.items in
    let cut = c.in_ok-back.ensures in
    record {
      whole = whole _ items _ _ cut.items cut.tail;
      front_shorter = search rules;
      back_shorter = search rules;
      front_chain = record { some = search rules; chain = rw cut.items (IsChain-take m.begin m.end m.weight _ items c.requires.chain) };
      back_chain = record { some = search rules; chain = rw cut.tail (IsChain-drop m.begin m.end m.weight _ items c.requires.chain) };
    }
