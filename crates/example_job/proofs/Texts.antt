-- The texts of an example as its loops write them: what stands already and what is left are together the whole.
use Rattle.std.proofs.Common.{◌≡◌, ◌<◌, ◌≤◌, ℕ, suc, zero, ◌+◌, ◌-◌, ◌/◌, ◌^◌, List, [], ◌∷◌, ◌++◌, replicate, arith, sym, ◌∙◌, ap, append_assoc, append-nil}
use Rattle.field_words.specs.Pieces.{joined_texts}
use Rattle.example_job.specs.{Noise.next_state, Noise.noise, Lists.state, Lists.triangle, Lists.states_from, Lists.record_bytes}

-- a piece goes over from what is left to what stands
gone_over : (out piece rest now all : List ℕ) → now ≡ piece ++ rest → out ++ now ≡ all → (out ++ piece) ++ rest ≡ all
gone_over out piece rest now all now_is whole = append_assoc out piece rest ∙ (ap (λ text. out ++ text) (sym now_is) ∙ whole)

one_less : (n i : ℕ) → i < n → n - i ≡ suc (n - (i + 1))
one_less n i below = omega (arith, below)

none_left : (n i : ℕ) → n ≤ i → n - i ≡ zero
none_left n i over = omega (arith, over)

pub noise_more : (out : List ℕ) (x n i : ℕ) (all : List ℕ) → i < n → out ++ noise x (n - i) ≡ all → (out ++ next_state x / 2 ^ 56 ∷ []) ++ noise (next_state x) (n - (i + 1)) ≡ all
unfolding noise
noise_more out x n i all below whole =
    gone_over out (next_state x / 2 ^ 56 ∷ []) (noise (next_state x) (n - (i + 1))) (noise x (n - i)) all (ap (noise x) (one_less n i below)) whole

pub noise_end : (out : List ℕ) (x n i : ℕ) (all : List ℕ) → n ≤ i → out ++ noise x (n - i) ≡ all → out ≡ all
unfolding noise
noise_end out x n i all over whole = sym (append-nil out) ∙ (ap (λ left. out ++ noise x left) (sym (none_left n i over)) ∙ whole)

pub states_more : (out : List ℕ) (n j : ℕ) (all : List ℕ) → j < n → out ++ joined_texts (states_from j (n - j)) ≡ all
    → (out ++ (state ++ triangle j)) ++ joined_texts (states_from (j + 1) (n - (j + 1))) ≡ all
states_more out n j all below whole =
    gone_over out (state ++ triangle j) (joined_texts (states_from (j + 1) (n - (j + 1)))) (joined_texts (states_from j (n - j))) all (ap (λ left. joined_texts (states_from j left)) (one_less n j below)) whole

pub states_end : (out : List ℕ) (n j : ℕ) (all : List ℕ) → n ≤ j → out ++ joined_texts (states_from j (n - j)) ≡ all → out ++ 7 ∷ 4 ∷ [] ≡ all
states_end out n j all over whole = ap (λ left. out ++ joined_texts (states_from j left)) (sym (none_left n j over)) ∙ whole

pub records_more : (out : List ℕ) (n i : ℕ) (all : List ℕ) → i < n → out ++ joined_texts (replicate (n - i) record_bytes) ≡ all
    → (out ++ record_bytes) ++ joined_texts (replicate (n - (i + 1)) record_bytes) ≡ all
records_more out n i all below whole =
    gone_over out record_bytes (joined_texts (replicate (n - (i + 1)) record_bytes)) (joined_texts (replicate (n - i) record_bytes)) all (ap (λ left. joined_texts (replicate left record_bytes)) (one_less n i below)) whole

pub records_end : (out : List ℕ) (n i : ℕ) (all : List ℕ) → n ≤ i → out ++ joined_texts (replicate (n - i) record_bytes) ≡ all → out ≡ all
records_end out n i all over whole = sym (append-nil out) ∙ (ap (λ left. out ++ joined_texts (replicate left record_bytes)) (sym (none_left n i over)) ∙ whole)
