-- The walk over a client's ids: its live buffers, and what they hold.
use Rattle.std.proofs.Common.{◌≡◌, ℕ, zero, suc, ◌+◌, ◌-◌, ◌≤◌, ◌<◌, List, [], ◌∷◌, ◌++◌, length, refl, sym, ◌∙◌, ap, arith, append_assoc, append-nil, length-append, Option, None, Some}
use Rattle.buffer_table.specs.declared.buffer.Buffer.{Buffer}
use Rattle.job_session.specs.Submit.{buffer_laid, laid_in, laid_at, size_of, contents_at, buffers_packed, contents_from}
use Rattle.job_session.specs.Own.{Held}

packed_step : (client : ℕ) (own : ℕ → Option Held) (id place : ℕ) → id < 64
    → buffers_packed client own id (64 - id) place ≡ laid_at client place (own id) ++ buffers_packed client own (id + 1) (64 - (id + 1)) (place + size_of (own id))
unfolding buffers_packed
packed_step client own id place inside =
    let e : 64 - id ≡ suc (64 - (id + 1)) = omega arith in
    ap (λ n. buffers_packed client own id n place) e

no_buffer : (client place : ℕ) (held : Option Held) → None ≡ laid_in client place held → (laid_at client place held ≡ []) × (size_of held ≡ 0)
no_buffer client place None is = (refl, refl)
no_buffer client place (Some held) is = let no : ⊥ = cc in absurd no

one_buffer : (client place : ℕ) (held : Option Held) (buffer : Buffer) → Some buffer ≡ laid_in client place held
    → (laid_at client place held ≡ buffer ∷ []) × (size_of held ≡ buffer.size)
one_buffer client place None buffer is = let no : ⊥ = cc in absurd no
one_buffer client place (Some held) buffer is =
    let e : buffer_laid client place held ≡ buffer = cc in (ap (λ b. b ∷ []) e, ap (λ (b : Buffer). b.size) e)

pub packed_none : (client : ℕ) (own : ℕ → Option Held) (id place : ℕ) (buffers all : List Buffer) → id < 64 → None ≡ laid_in client place (own id)
    → buffers ++ buffers_packed client own id (64 - id) place ≡ all → buffers ++ buffers_packed client own (id + 1) (64 - (id + 1)) place ≡ all
packed_none client own id place buffers all inside is before =
    let none = no_buffer client place (own id) is in
    let rest : ℕ → List Buffer = buffers_packed client own (id + 1) (64 - (id + 1)) in
    let there : place + size_of (own id) ≡ place = omega (arith, none.1) in
    let same : buffers_packed client own id (64 - id) place ≡ rest place =
    packed_step client own id place inside ∙ (ap (λ bs. bs ++ rest (place + size_of (own id))) none.0 ∙ ap rest there) in
    ap (λ bs. buffers ++ bs) (sym same) ∙ before

pub packed_some : (client : ℕ) (own : ℕ → Option Held) (id place next : ℕ) (buffer : Buffer) (buffers more all : List Buffer) → id < 64
    → Some buffer ≡ laid_in client place (own id) → next ≡ place + buffer.size → more ≡ buffers ++ buffer ∷ []
    → buffers ++ buffers_packed client own id (64 - id) place ≡ all → more ++ buffers_packed client own (id + 1) (64 - (id + 1)) next ≡ all
packed_some client own id place next buffer buffers more all inside is behind put before =
    let one = one_buffer client place (own id) buffer is in
    let rest : ℕ → List Buffer = buffers_packed client own (id + 1) (64 - (id + 1)) in
    let there : place + size_of (own id) ≡ next = omega (arith, one.1, behind) in
    let same : buffers_packed client own id (64 - id) place ≡ (buffer ∷ []) ++ rest next =
    packed_step client own id place inside ∙ (ap (λ bs. bs ++ rest (place + size_of (own id))) one.0 ∙ ap (λ p. (buffer ∷ []) ++ rest p) there) in
    ap (λ bs. bs ++ rest next) put ∙ (append_assoc buffers (buffer ∷ []) (rest next) ∙ (ap (λ bs. buffers ++ bs) (sym same) ∙ before))

pub packed_end : (client : ℕ) (own : ℕ → Option Held) (id place : ℕ) (buffers all : List Buffer) → 64 ≤ id
    → buffers ++ buffers_packed client own id (64 - id) place ≡ all → buffers ≡ all
unfolding buffers_packed
packed_end client own id place buffers all past before =
    let e : 64 - id ≡ zero = omega arith in
    sym (append-nil buffers) ∙ (ap (λ n. buffers ++ buffers_packed client own id n place) (sym e) ∙ before)

pub contents_more : (own : ℕ → Option Held) (id : ℕ) (file next all : List ℕ) → id < 64 → next ≡ file ++ contents_at (own id)
    → file ++ contents_from own id (64 - id) ≡ all → next ++ contents_from own (id + 1) (64 - (id + 1)) ≡ all
unfolding contents_from
contents_more own id file next all inside put before =
    let e : 64 - id ≡ suc (64 - (id + 1)) = omega arith in
    let rest : List ℕ = contents_from own (id + 1) (64 - (id + 1)) in
    ap (λ bytes. bytes ++ rest) put ∙ (append_assoc file (contents_at (own id)) rest ∙ (ap (λ n. file ++ contents_from own id n) (sym e) ∙ before))

pub contents_end : (own : ℕ → Option Held) (id : ℕ) (file all : List ℕ) → 64 ≤ id → file ++ contents_from own id (64 - id) ≡ all → file ≡ all
unfolding contents_from
contents_end own id file all past before =
    let e : 64 - id ≡ zero = omega arith in
    sym (append-nil file) ∙ (ap (λ n. file ++ contents_from own id n) (sym e) ∙ before)

pub one_longer : (id : ℕ) (buffers more : List Buffer) (buffer : Buffer) → more ≡ buffers ++ buffer ∷ [] → length buffers ≤ id → length more ≤ id + 1
one_longer id buffers more buffer put few =
    let long : length more ≡ length buffers + 1 = ap length put ∙ length-append buffers (buffer ∷ []) in
    omega (arith, long, few)
