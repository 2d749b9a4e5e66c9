-- What a list of contexts is with one more extension.
use Rattle.std.proofs.Common.{◌≡◌, ◌≤◌, ℕ, zero, suc, List, [], ◌∷◌, ◌++◌, length, refl, ap, ◌∙◌, arith, get_or, slice_set}
use Rattle.fs_doc.specs.Dialplans.{Context, Extension, with_extension}

pub added : (contexts : List Context) (position : ℕ) (context : Context) (extension : Extension) (extensions : List Extension) →
    context ≡ get_or contexts position context
    → extensions ≡ context.extensions ++ extension ∷ []
    → slice_set contexts position (record { name = context.name; extensions = extensions }) ≡ with_extension position extension contexts
added [] position context extension extensions found is = refl
added (first ∷ contexts) zero context extension extensions found is =
    let row : List Extension → Context → List Context = λ more c. record { name = c.name; extensions = more } ∷ contexts in
    ap (λ more. row more context) is ∙ ap (λ (c : Context). row (c.extensions ++ extension ∷ []) c) found
added (first ∷ contexts) (suc position) context extension extensions found is =
    ap (λ more. first ∷ more) (added contexts position context extension extensions found is)

pub none_added : (contexts : List Context) (position : ℕ) (extension : Extension) → length contexts ≤ position →
    contexts ≡ with_extension position extension contexts
none_added [] position extension past = refl
none_added (first ∷ contexts) zero extension past = absurd (omega arith)
none_added (first ∷ contexts) (suc position) extension past = ap (λ more. first ∷ more) (none_added contexts position extension (omega arith))
