-- A program's start.
use Rattle.std.proofs.Common.{◌≡◌, ◌<◌, inl, ℕ, List, refl, subst, arith, rules}
use Rattle.qpu_isa.specs.Terms.{is_branch, is_switch, is_end, is_address_write, names_on_a, add_names, mul_names}
use Rattle.qpu_isa.specs.declared.inst.Reg.{Reg}
use Rattle.qpu_isa.specs.{Word.sig_of, Word.ws_of, Word.waddr_add_of, Word.waddr_mul_of, Report.IsRegister}
use Rattle.shader_flow.specs.Pending.{count_of}
use Rattle.shader_check.specs.Info.{setups_held}
use Rattle.qpu_machine.specs.{Start.idle, Start.thread_of, Qpu.with_result, declared.state.Thread.Thread}
use Rattle.qpu_law.specs.{Home.Home, Home.IsQuiet, Home.IsBlank, Facts.row_of, Facts.IsMade, Facts.Tells, Facts.FactsHold}
use Rattle.qpu_law.specs.{Stream.PointerIs, Thread.ResultsKeep, Samples.StartsStand}
use Rattle.std.specs.Prelude.{slice_index, Option}

idle_quiet : IsQuiet idle.word
unfolding is_branch is_switch is_end is_address_write names_on_a add_names mul_names sig_of ws_of waddr_add_of waddr_mul_of
idle_quiet = record { branch = refl; switch = refl; end = refl; address = refl }

idle_blank : (code : List ℕ) (k : ℕ) → 0 < k → IsBlank code 0 k idle
idle_blank code k some = record { root = 0; is = inl refl; from = omega arith; near = omega (arith, some); quiet = idle_quiet; leads = refl }

pub none_made : (code : List ℕ) (j : ℕ) → j < 0 → ⊥
none_made code j before = omega (arith, before)

pub starts_stand_law : StartsStand
unfolding thread_of setups_held count_of
starts_stand_law h job launch code_is stream_is threaded_is = search (rules, arith, idle_blank, none_made)

same_row : (tmu : ℕ) (row : Option (List ℕ)) (t : Thread) (reg : Reg) → row_of t reg ≡ row_of (with_result tmu row t) reg
same_row tmu row t reg = search (rules, arith)

facts_reported : (h : Home) (n tmu : ℕ) (row : Option (List ℕ)) (t : Thread) → FactsHold h n t → (j : ℕ) (reg : Reg) → IsRegister reg → IsMade h.code j n reg → (e : ℕ) → e < 16
    → Tells h j (slice_index (row_of (with_result tmu row t) reg) e)
facts_reported h n tmu row t facts j reg known here e below = subst (λ r. Tells h j (slice_index r e)) (same_row tmu row t reg) (facts.report j reg known here e below)

pointer_same : (h : Home) (n tmu : ℕ) (row : Option (List ℕ)) (t : Thread) → PointerIs h n t → PointerIs h n (with_result tmu row t)
pointer_same h n tmu row t h5 = search (rules, arith)

-- results alone change
pub results_keep_law : ResultsKeep
results_keep_law h n tmu row t is = search (rules, arith, facts_reported, pointer_same)
