-- What holds at the exit of a `?`.
use Rattle.std.proofs.Common.{rules, ◌≡◌, Ok, Err, Result, OnErr, IsErrAnd, IsErrOf, refl, subst}
use Rattle.svn_path.specs.PathError.{path_error_of}
use Rattle.svn_path.specs.declared.names.NamesError.{NamesError}
use Rattle.svn_path.specs.declared.names.NamesError.TheVariants as names
use Rattle.svn_path.specs.declared.path.PathError.{PathError}
use Rattle.svn_path.specs.declared.path.PathError.TheVariants as paths

-- a fact holds on an error too
pub OnErr-from : {T E P : Type 0} (result : Result T E) → P → OnErr result P
OnErr-from (Ok value) fact = tt
OnErr-from (Err error) fact = fact

full_of : (e : NamesError) → paths.Full ≡ path_error_of e → e ≡ names.Full
full_of names.Full same = refl
full_of names.Memory same = search rules

-- a refusal that is reported as that of a full table is one
pub full-reported : {T : Type 0} (result : Result T PathError) (e : NamesError)
    → IsErrAnd result (λ reported. reported ≡ path_error_of e) → IsErrOf result paths.Full → e ≡ names.Full
full-reported result e reported full =
    full_of e (subst (λ each. IsErrAnd each (λ error. error ≡ path_error_of e)) full reported)
