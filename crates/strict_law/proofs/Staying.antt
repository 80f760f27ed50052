-- A thread whose registers or results alone change is where it was.
use Rattle.std.proofs.Common.{◌≡◌, ℕ, List, Option, refl}
use Rattle.qpu_machine.specs.{declared.state.Thread.Thread, Qpu.fresh_thread, Qpu.with_result}
use Rattle.qpu_law.specs.Home.{Home, IsAt, ArePending}
use Rattle.promises.specs.Days.{Files, with_files}

pub record Stays (t next : Thread) : Type 0 where
  pub job : next.job ≡ t.job
  pub at : (home : Home) (n : ℕ) → IsAt home n t → IsAt home n next
  pub pending : (code : List ℕ) (n : ℕ) → ArePending code n t → ArePending code n next

pub stays_same : (t : Thread) → Stays t t
stays_same t = record { job = refl; at = λ home n at. at; pending = λ code n words. words }

pub stays_fresh : (t : Thread) → Stays t (fresh_thread t)
stays_fresh t = record {
  job = refl;
  at = λ home n at. record { place = at.place; inside = at.inside; threaded = at.threaded; mark1 = at.mark1; mark2 = at.mark2; mark3 = at.mark3 };
  pending = λ code n words. record { tmu0 = words.tmu0; tmu1 = words.tmu1 };
}

pub stays_given : (tmu : ℕ) (row : Option (List ℕ)) (t : Thread) → Stays t (with_result tmu row t)
stays_given tmu row t = record {
  job = refl;
  at = λ home n at. record { place = at.place; inside = at.inside; threaded = at.threaded; mark1 = at.mark1; mark2 = at.mark2; mark3 = at.mark3 };
  pending = λ code n words. record { tmu0 = words.tmu0; tmu1 = words.tmu1 };
}

pub stays_filed : (files : Files) (t : Thread) → Stays t (with_files files t)
stays_filed files t = record {
  job = refl;
  at = λ home n at. record { place = at.place; inside = at.inside; threaded = at.threaded; mark1 = at.mark1; mark2 = at.mark2; mark3 = at.mark3 };
  pending = λ code n words. record { tmu0 = words.tmu0; tmu1 = words.tmu1 };
}
