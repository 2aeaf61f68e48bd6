-- Bytes to which others were appended begin with what they were.
use Rattle.std.proofs.Common.{◌≡◌, ℕ, List, ◌++◌, length, take, drop, sym, ap, ◌∙◌}
use Rattle.std.proofs.Math.Seq.{take-append_seam, take-length}
use Rattle.std.proofs.lemmas.List.{append_assoc, take-append-drop}
use Rattle.svn_text.specs.Appended.{BeginsWith}

pub BeginsWith-same : {old new : List ℕ} → new ≡ old → BeginsWith old new
BeginsWith-same {old} {new} same = record { front = ap (take (length old)) same ∙ take-length old }

pub BeginsWith-append : {old new : List ℕ} (more : List ℕ) → new ≡ old ++ more → BeginsWith old new
BeginsWith-append {old} {new} more is = record { front = ap (take (length old)) is ∙ take-append_seam old more }

-- what follows the old bytes in the new ones
BeginsWith-rest : {old new : List ℕ} → BeginsWith old new → new ≡ old ++ drop (length old) new
BeginsWith-rest {old} {new} begins =
    sym (take-append-drop (length old) new) ∙ ap (λ bytes. bytes ++ drop (length old) new) begins.front

pub BeginsWith-trans : {old between new : List ℕ} → BeginsWith old between → BeginsWith between new → BeginsWith old new
BeginsWith-trans {old} {between} {new} first next =
    BeginsWith-append (drop (length old) between ++ drop (length between) new)
    (BeginsWith-rest next
    ∙ ap (λ bytes. bytes ++ drop (length between) new) (BeginsWith-rest first)
    ∙ append_assoc old (drop (length old) between) (drop (length between) new))

-- more was appended to bytes that begin with the old ones
pub BeginsWith-more : {old between new : List ℕ} (more : List ℕ) → BeginsWith old between → new ≡ between ++ more → BeginsWith old new
BeginsWith-more more begins is = BeginsWith-trans begins (BeginsWith-append more is)

-- they were left
pub BeginsWith-kept : {old between new : List ℕ} → BeginsWith old between → new ≡ between → BeginsWith old new
BeginsWith-kept begins same = BeginsWith-trans begins (BeginsWith-same same)

-- at each exit of a function that appends
pub ruleset appended = (BeginsWith-append, BeginsWith-more, BeginsWith-kept, BeginsWith-same, BeginsWith-trans)
