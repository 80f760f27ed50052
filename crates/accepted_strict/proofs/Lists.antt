-- The emitted binner list of each job of a strict file breaks no strict rule.
use Rattle.std.proofs.Common.{◌≡◌, ◌<◌, ℕ, Bool, true, false, List, [], ◌∷◌, length, None, refl, sym, ◌∙◌, ap, subst, arith}
use Rattle.std.specs.Prelude.{unwrap_or}
use Rattle.field_words.specs.{Pieces.joined_texts, Questions.first_of, Questions.each}
use Rattle.field_words.proofs.Nones.{front_none, rest_none, each_none, none_answered}
use Rattle.bin_list.specs.{Packets.packets, Rules.given_of}
use Rattle.bin_walks.specs.{Walks.Drawing, Walks.Kept, Walks.Tame, Walks.Walks, Walks.kept_after, Walks.nothing_kept, Emission.emission, Emission.config_of}
use Rattle.bin_walks.specs.Draws.{IsDrawn}
use Rattle.bin_list.specs.{Packets.packets_passed, Seen.seen_before, States.states_of}
use Rattle.packets.specs.declared.config.Config.{Config}
use Rattle.job_format.specs.Model.{FileModel}
use Rattle.job_check.specs.Jobs.{job_of, has_bin, layout_of, states_in, bin_list_of}
use Rattle.job_check.specs.Shaders.{table_of}
use Rattle.list_law.proofs.Start.{Follows, walks_so}
use Rattle.accepted_law.specs.{Ends.DrawShaders, Parts.BinWalks, Settled.Grounds}
use Rattle.accepted_law.specs.Holdings.{config_for}
use Rattle.accepted_law.proofs.{Holding.bin_is}
use Rattle.ends_law.specs.Left.{AllWhole}
use Rattle.ends_law.proofs.Begins.{walks_whole}
use Rattle.strict_lists.specs.Rules.{list_questions}
use Rattle.strict_check.specs.Stages.{list_refused, list_stage, records_stage, codes_stage, job_stages, strict_stages}
use Rattle.strict_law.specs.{Records.selects_missing, Strict.IsListStrict}
use Rattle.accepted_strict.specs.Files.{FileStrict}
use Rattle.accepted_strict.proofs.{Emitted.emitted_strict, Emitted.joined_once, Selects.record_selects}
use Rattle.accepted_law.proofs.BinWalking.{walked}
use Rattle.job_check.proofs.Views.{no_bin_list}

-- the list in the file
source_strict : (f : FileModel) (j : ℕ) → FileStrict f → j < length f.jobs → first_of (list_questions (job_of f j).bin) ≡ None
unfolding strict_stages job_stages list_stage
source_strict f j strict inside =
    let jobs = rest_none (codes_stage f) (each (job_stages f) 0 (length f.jobs)) strict in
    let one = each_none (job_stages f) 0 (length f.jobs) j jobs (omega arith) (omega (arith, inside)) in
    none_answered (list_refused j) (list_questions (job_of f j).bin) (front_none (list_stage f j) (records_stage f j) one)

all_whole : (f : FileModel) (j : ℕ) (m : List ℕ) → Grounds f j m → has_bin f j ≡ true
    → AllWhole (emission (given_of (job_of f j).bin (job_of f j).declared (table_of f) (job_of f j).handles) (layout_of f j) [] (packets (job_of f j).bin))
all_whole f j m grounds has =
    let bin : List ℕ = (job_of f j).bin in
    let layout = layout_of f j in
    let seen = seen_before (packets_passed bin) in
    let it = walked f j m grounds has in
    walks_whole (config_of layout seen.tiles_x seen.tiles_y) (IsDrawn (table_of f) (job_of f j).handles layout (states_of (packets bin))) nothing_kept (emission (given_of bin (job_of f j).declared (table_of f) (job_of f j).handles) layout [] (packets bin)) it.walks

-- its packets are those of the file's list that emission keeps, which are primitives of its states
same_packets : (f : FileModel) (j : ℕ) (m : List ℕ) (list : List (List ℕ)) → (grounds : Grounds f j m) → (has : has_bin f j ≡ true) → bin_list_of f j ≡ joined_texts list → AllWhole list
    → emission (given_of (job_of f j).bin (job_of f j).declared (table_of f) (job_of f j).handles) (layout_of f j) [] (packets (job_of f j).bin) ≡ list
same_packets f j m list grounds has text whole =
    let it = walked f j m grounds has in
    joined_once (emission (given_of (job_of f j).bin (job_of f j).declared (table_of f) (job_of f j).handles) (layout_of f j) [] (packets (job_of f j).bin)) list (all_whole f j m grounds has) whole (sym it.text ∙ (sym (bin_is f j has) ∙ text))

some_strict : (f : FileModel) (j : ℕ) (m : List ℕ) (list : List (List ℕ)) → FileStrict f → Grounds f j m → has_bin f j ≡ true → bin_list_of f j ≡ joined_texts list → AllWhole list → IsListStrict list
unfolding list_questions
some_strict f j m list strict grounds has text whole =
    let bin : List ℕ = (job_of f j).bin in
    let given = given_of bin (job_of f j).declared (table_of f) (job_of f j).handles in
    subst IsListStrict (same_packets f j m list grounds has text whole) (emitted_strict given (layout_of f j) (packets bin) (source_strict f j strict grounds.settled.inside) (all_whole f j m grounds has))

list_by : (f : FileModel) (j : ℕ) (m : List ℕ) (list : List (List ℕ)) (has : Bool) → has_bin f j ≡ has → FileStrict f → Grounds f j m → bin_list_of f j ≡ joined_texts list → AllWhole list → IsListStrict list
list_by f j m list true has strict grounds text whole = some_strict f j m list strict grounds has text whole
list_by f j m list false has strict grounds text whole = subst IsListStrict (joined_once [] list tt whole (sym (no_bin_list f j has) ∙ text)) refl

pub list_strict : (f : FileModel) (j : ℕ) (m : List ℕ) → FileStrict f → Grounds f j m → (bin : BinWalks f j m) → IsListStrict bin.packets
list_strict f j m strict grounds bin = list_by f j m bin.packets (has_bin f j) refl strict grounds bin.text (walks_whole (config_for f j) (DrawShaders f j m) nothing_kept bin.packets bin.walks)

-- Each primitive in it is one of a state of the job, whose record selects what is there.
record_there : (f : FileModel) (j : ℕ) (m : List ℕ) → FileStrict f → (grounds : Grounds f j m) → has_bin f j ≡ true → Follows (IsDrawn (table_of f) (job_of f j).handles (layout_of f j) (states_of (packets (job_of f j).bin))) (λ word packet. selects_missing m word ≡ false)
unfolding states_in
record_there f j m strict grounds has word packet drawn kind = record_selects f j m word drawn.state strict grounds has drawn.is_state

some_select : (f : FileModel) (j : ℕ) (m : List ℕ) (list : List (List ℕ)) → FileStrict f → Grounds f j m → has_bin f j ≡ true → bin_list_of f j ≡ joined_texts list → AllWhole list → Walks (config_for f j) (λ word packet. selects_missing m word ≡ false) nothing_kept list
unfolding layout_of config_for
some_select f j m list strict grounds has text whole =
    let bin : List ℕ = (job_of f j).bin in
    let layout = layout_of f j in
    let seen = seen_before (packets_passed bin) in
    let emitted = emission (given_of bin (job_of f j).declared (table_of f) (job_of f j).handles) layout [] (packets bin) in
    let it = walked f j m grounds has in
    let walks : Walks (config_of layout seen.tiles_x seen.tiles_y) (λ word packet. selects_missing m word ≡ false) nothing_kept emitted =
    walks_so (config_of layout seen.tiles_x seen.tiles_y) (IsDrawn (table_of f) (job_of f j).handles layout (states_of (packets bin))) (λ word packet. selects_missing m word ≡ false) (record_there f j m strict grounds has) nothing_kept emitted it.walks in
    subst (λ (ps : List (List ℕ)). Walks (config_for f j) (λ word packet. selects_missing m word ≡ false) nothing_kept ps) (same_packets f j m list grounds has text whole) walks

select_by : (f : FileModel) (j : ℕ) (m : List ℕ) (list : List (List ℕ)) (has : Bool) → has_bin f j ≡ has → FileStrict f → Grounds f j m → bin_list_of f j ≡ joined_texts list → AllWhole list → Walks (config_for f j) (λ word packet. selects_missing m word ≡ false) nothing_kept list
select_by f j m list true has strict grounds text whole = some_select f j m list strict grounds has text whole
select_by f j m list false has strict grounds text whole =
    subst (λ (ps : List (List ℕ)). Walks (config_for f j) (λ word packet. selects_missing m word ≡ false) nothing_kept ps) (joined_once [] list tt whole (sym (no_bin_list f j has) ∙ text)) tt

pub lists_select : (f : FileModel) (j : ℕ) (m : List ℕ) → FileStrict f → Grounds f j m → (bin : BinWalks f j m) → Walks (config_for f j) (λ word packet. selects_missing m word ≡ false) nothing_kept bin.packets
lists_select f j m strict grounds bin = select_by f j m bin.packets (has_bin f j) refl strict grounds bin.text (walks_whole (config_for f j) (DrawShaders f j m) nothing_kept bin.packets bin.walks)

-- Two walks of a list are one.
drawing_both : (R S : ℕ → List ℕ → Type 0) (kept : Kept) (packet : List ℕ) → Drawing R kept packet → Drawing S kept packet → Drawing (λ word one. R word one × S word one) kept packet
drawing_both R S kept packet first second =
    let same : second.word ≡ first.word = ap (λ o. unwrap_or o second.word) (sym second.kept_word ∙ first.kept_word) in
    record { word = first.word; kept_word = first.kept_word; started = first.started; allowed = (first.allowed, subst (λ word. S word packet) same second.allowed) }

tame_both : (c : Config) (R S : ℕ → List ℕ → Type 0) (kept : Kept) (packet : List ℕ) → Tame c R kept packet → Tame c S kept packet → Tame c (λ word one. R word one × S word one) kept packet
tame_both c R S kept packet first second = record {
  whole = first.whole;
  known = first.known;
  no_halt = first.no_halt;
  no_handles = first.no_handles;
  configures = first.configures;
  starts = first.starts;
  indexed = λ is. drawing_both R S kept packet (first.indexed is) (second.indexed is);
  array = λ is. drawing_both R S kept packet (first.array is) (second.array is);
  closes = first.closes;
}

pub walks_both : (c : Config) (R S : ℕ → List ℕ → Type 0) (kept : Kept) (packets : List (List ℕ)) → Walks c R kept packets → Walks c S kept packets → Walks c (λ word one. R word one × S word one) kept packets
walks_both c R S kept [] first second = tt
walks_both c R S kept (packet ∷ packets) first second = (tame_both c R S kept packet first.0 second.0, walks_both c R S (kept_after kept packet) packets first.1 second.1)
