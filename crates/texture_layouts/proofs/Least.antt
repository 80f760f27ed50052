-- The rules of a texture are asked by number, and so are those of a direct read.
use Rattle.std.proofs.Common.{◌≡◌, ℕ, lit≤, ◌≤◌, Some}
use Rattle.field_words.specs.{Questions.first_of, Least.IsLeast}
use Rattle.field_words.proofs.Least.{numbers, least}
use Rattle.texture_layouts.specs.Fits.{texture_questions, direct_questions}

pub texture_least : (p0 p1 p2 p3 size n : ℕ) → first_of (texture_questions p0 p1 p2 p3 size) ≡ Some n → IsLeast (λ n m. n ≤ m) (texture_questions p0 p1 p2 p3 size) n
unfolding texture_questions
texture_least p0 p1 p2 p3 size n first =
    least (λ n m. n ≤ m) 4 9 _ n numbers (lit≤ tt, (lit≤ tt, (lit≤ tt, (lit≤ tt, (lit≤ tt, (lit≤ tt, lit≤ tt)))))) first

pub direct_least : (base bound size n : ℕ) → first_of (direct_questions base bound size) ≡ Some n → IsLeast (λ n m. n ≤ m) (direct_questions base bound size) n
unfolding direct_questions
direct_least base bound size n first = least (λ n m. n ≤ m) 2 3 _ n numbers (lit≤ tt, (lit≤ tt, lit≤ tt)) first
