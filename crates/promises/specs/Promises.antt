-- All that is promised of the date reader and its writer, in one file: a record for each demand, one for the change
-- requests, and in the end one of them all. `kept` in proofs/Promises.antt proves it. What the contract of `read`
-- promises, demands 1 and 2 together, is beside it in Reading.antt. set is the settings of a caller, t a template, s an
-- input, c the bytes of a compiled template, ns nodes: any numbers of any length. What a name means is in the file that
-- it is taken from.
use Rattle.std.specs.Prelude.{◌≡◌, Bool, true, List, ℕ, length, Err, Result}
use Rattle.base_settings.specs.declared.Settings.{Settings}
use Rattle.read_words.specs.FoldOnce.{FoldOnce}
use Rattle.template_nodes.specs.Cover.{Covered}
use Rattle.template_nodes.specs.Template.{nodes_by, nodes_of}
use Rattle.template_nodes.specs.Bytes.{nodes_in}
use Rattle.template_nodes.specs.declared.Node.{Node}
use Rattle.moment_parts.specs.Parts.{parts_by, parts_of}
use Rattle.moment_parts.specs.Ranges.{Answered}
use Rattle.moment_parts.specs.Strict.{StrictAlone}
use Rattle.moment_parts.specs.Patterns.{NamesOwn, NoneOrIn}
use Rattle.moment_parts.specs.Examples.{Table}
use Rattle.moment_instants.specs.ByTemplate.{instant_by, day_by, timestamp_of, date_of}
use Rattle.moment_instants.specs.Ranges.{InstantAnswered, DayAnswered}
use Rattle.moment_instants.specs.Report.{undated_report}
use Rattle.moment_instants.specs.declared.epoch.Undated.{Undated}
use Rattle.write_pieces.specs.Moment.{is_moment, PlainMoment}
use Rattle.write_pieces.specs.declared.Moment.{Moment}
use Rattle.write_text.specs.ByName.{ByName}
use Rattle.write_text.specs.OwnCase.{OwnCase}
use Rattle.write_text.specs.Report.{unwritten_report}
use Rattle.write_text.specs.Text.{text_of}
use Rattle.write_text.specs.Writer.{buffer_after, text_in, written_in, written_to}
use Rattle.write_text.specs.declared.Unwritten.{Unwritten}
use Rattle.sorbilgan_records.specs.Ranges.{PartsRecorded, InstantRecorded, DayRecorded}
use Rattle.readback.specs.ReadBack.{EveryBack, JoinedNeeded, SixNeeded}
use Rattle.sorbilgan.specs.Accents.{AccentsMode}
use Rattle.sorbilgan.specs.Callers.{CardsAndPages, WithinBoth}
use Rattle.sorbilgan.specs.Once.{CompileOnce}
use Rattle.promises.specs.declared.Readings.{Readings}
use Rattle.moment_parts.proofs.to_timestamp_parts.Statement as ToTimestampParts
use Rattle.moment_parts.proofs.parts_by.Statement as PartsBy
use Rattle.moment_instants.proofs.to_timestamp_text.Statement as ToTimestampText
use Rattle.moment_instants.proofs.instant_by.Statement as InstantBy
use Rattle.moment_instants.proofs.to_date_text.Statement as ToDateText
use Rattle.moment_instants.proofs.day_by.Statement as DayBy
use Rattle.write_text.proofs.write.Statement as Write
use Rattle.write_text.proofs.write_by.Statement as WriteBy
use Rattle.readback.proofs.write_and_read.Statement as WriteAndRead
use Rattle.sorbilgan.proofs.sorbilgan_parts_with.Statement as SorbilganPartsWith
use Rattle.sorbilgan.proofs.sorbilgan_parts_by_with.Statement as SorbilganPartsByWith
use Rattle.sorbilgan.proofs.sorbilgan_instant_with.Statement as SorbilganInstantWith
use Rattle.sorbilgan.proofs.sorbilgan_instant_by_with.Statement as SorbilganInstantByWith
use Rattle.sorbilgan.proofs.sorbilgan_date_with.Statement as SorbilganDateWith
use Rattle.sorbilgan.proofs.sorbilgan_date_by_with.Statement as SorbilganDateByWith
use Rattle.sorbilgan.proofs.sorbilgan_write_with.Statement as SorbilganWriteWith
use Rattle.sorbilgan.proofs.sorbilgan_write_by_with.Statement as SorbilganWriteByWith
use Rattle.sorbilgan.proofs.sorbilgan_compile_with.Statement as SorbilganCompileWith
use Rattle.sorbilgan.proofs.sorbilgan_parts.Statement as SorbilganParts
use Rattle.sorbilgan.proofs.sorbilgan_parts_by.Statement as SorbilganPartsBy
use Rattle.sorbilgan.proofs.sorbilgan_instant.Statement as SorbilganInstant
use Rattle.sorbilgan.proofs.sorbilgan_instant_by.Statement as SorbilganInstantBy
use Rattle.sorbilgan.proofs.sorbilgan_date.Statement as SorbilganDate
use Rattle.sorbilgan.proofs.sorbilgan_date_by.Statement as SorbilganDateBy
use Rattle.sorbilgan.proofs.sorbilgan_compile.Statement as SorbilganCompile
use Rattle.sorbilgan.proofs.sorbilgan_write.Statement as SorbilganWrite
use Rattle.sorbilgan.proofs.sorbilgan_write_by.Statement as SorbilganWriteBy
use Rattle.sorbilgan.proofs.sorbilgan_has_lone_mark.Statement as SorbilganHasLoneMark
use Rattle.sorbilgan.proofs.sorbilgan_pattern.Statement as SorbilganPattern
use Rattle.sorbilgan.proofs.sorbilgan_version.Statement as SorbilganVersion
use Rattle.line_answers.proofs.answer.Statement as AnswerLine
use Rattle.line_texts.proofs.answer_lines.Statement as AnswerLines
use Rattle.moment_parts.specs.declared.Parts.{Parts}
use Rattle.moment_parts.specs.declared.Unread.{Unread}

-- Demand 1: nothing false is handed out. An answer is in range, or it is a refusal by its number and nothing else.
-- It holds for every caller, whatever its settings are. That no function traps or hangs is part of the theorems of
-- demand 2.
pub record EveryAnswer : Type 0 where
  -- the parts, by any nodes and by a template, said of the answer alone. In range: each part by itself; what has no
  -- mark has its default, and a year other than 0 has its mark; with all three marks, and in every year but 0, the
  -- month has the day; under the strict switch it can have the day. A refusal is by 1 to 16, or under that switch by 25
  pub parts_by_nodes : (set : Settings) (ns : List Node) (t s : List ℕ) → Answered set.strict (parts_by set ns t s)
  pub parts : (set : Settings) (t s : List ℕ) → Answered set.strict (parts_of set t s)
  -- the instant and the day of any such answer: neither end of 64 bits, neither end of 32 bits
  pub instant : (strict : Bool) (a : Result Parts Unread) → Answered strict a → InstantAnswered strict (instant_by a)
  pub day : (strict : Bool) (a : Result Parts Unread) → Answered strict a → DayAnswered strict (day_by a)
  -- the records that other languages get, by any nodes and by a template; refused: what would have been read is 0
  pub parts_by_record : (set : Settings) (ns : List Node) (t s : List ℕ) → PartsRecorded set.strict (parts_by set ns t s)
  pub parts_record : (set : Settings) (t s : List ℕ) → PartsRecorded set.strict (parts_of set t s)
  pub instant_record : (strict : Bool) (a : Result Parts Unread) → Answered strict a → InstantRecorded strict (instant_by a)
  pub day_record : (strict : Bool) (a : Result Parts Unread) → Answered strict a → DayRecorded strict (day_by a)
  -- a refusal names no pattern, or one of the nodes'
  pub names_by : (set : Settings) (ns : List Node) (t s : List ℕ) → NamesOwn ns (parts_by set ns t s)
  pub instant_names_by : (set : Settings) (ns : List Node) (t s : List ℕ) {why : Undated} → instant_by (parts_by set ns t s) ≡ Err why
      → NoneOrIn ns (undated_report why).pattern
  pub day_names_by : (set : Settings) (ns : List Node) (t s : List ℕ) {why : Undated} → day_by (parts_by set ns t s) ≡ Err why
      → NoneOrIn ns (undated_report why).pattern
  pub text_names_by : (set : Settings) (c t : List ℕ) (m : Moment) (room : ℕ) {why : Unwritten} → written_in set c t m room ≡ Err why
      → NoneOrIn (nodes_in c) (unwritten_report why).pattern
  -- the same by a template: one of the template's
  pub names : (set : Settings) (t s : List ℕ) → NamesOwn (nodes_by set.accents t) (parts_of set t s)
  pub instant_names : (set : Settings) (t s : List ℕ) {why : Undated} → timestamp_of set t s ≡ Err why
      → NoneOrIn (nodes_by set.accents t) (undated_report why).pattern
  pub day_names : (set : Settings) (t s : List ℕ) {why : Undated} → date_of set t s ≡ Err why
      → NoneOrIn (nodes_by set.accents t) (undated_report why).pattern
  pub text_names : (set : Settings) (t : List ℕ) (m : Moment) (room : ℕ) {why : Unwritten} → written_to set t m room ≡ Err why
      → NoneOrIn (nodes_of t) (unwritten_report why).pattern
  -- a refusal of the writer leaves the buffer as it was
  pub buffer : (set : Settings) (t : List ℕ) (m : Moment) (before : List ℕ) {why : Unwritten} → written_to set t m (length before) ≡ Err why
      → buffer_after (written_to set t m (length before)) (text_of t m) before ≡ before
  pub buffer_by : (set : Settings) (c t : List ℕ) (m : Moment) (before : List ℕ) {why : Unwritten} → written_in set c t m (length before) ≡ Err why
      → buffer_after (written_in set c t m (length before)) (text_in c t m) before ≡ before

-- Demand 2: right by the public document. `statement` is the checker's theorem of a function: for all arguments it
-- never traps, it returns, and its contract holds. The contract is the equation that the comment gives; src/ has it.
pub record EveryEquation : Type 2 where
  -- to_timestamp_parts set t s = parts_of set t s, and by bytes as nodes parts_by set (nodes_in c) t s
  pub to_timestamp_parts : {M : Type 1} → ToTimestampParts.statement M
  pub parts_by_nodes : {M : Type 1} → PartsBy.statement M
  -- to_timestamp_text set t s = timestamp_of set t s, and by bytes as nodes instant_by (parts_by set (nodes_in c) t s)
  pub to_timestamp_text : {M : Type 1} → ToTimestampText.statement M
  pub instant_by_nodes : {M : Type 1} → InstantBy.statement M
  -- to_date_text set t s = date_of set t s, and by bytes as nodes day_by (parts_by set (nodes_in c) t s)
  pub to_date_text : {M : Type 1} → ToDateText.statement M
  pub day_by_nodes : {M : Type 1} → DayBy.statement M
  -- write set t m = written_to set t m, and by bytes as nodes written_in set c t m; the buffer after it is buffer_after
  pub write : {M : Type 1} → Write.statement M
  pub write_by : {M : Type 1} → WriteBy.statement M
  -- the exports: the same answers as records, the bytes of a compiled template; with settings as bits, settings_of, and
  -- for the exercise pages
  pub sorbilgan_parts_with : {M : Type 1} → SorbilganPartsWith.statement M
  pub sorbilgan_parts_by_with : {M : Type 1} → SorbilganPartsByWith.statement M
  pub sorbilgan_instant_with : {M : Type 1} → SorbilganInstantWith.statement M
  pub sorbilgan_instant_by_with : {M : Type 1} → SorbilganInstantByWith.statement M
  pub sorbilgan_date_with : {M : Type 1} → SorbilganDateWith.statement M
  pub sorbilgan_date_by_with : {M : Type 1} → SorbilganDateByWith.statement M
  pub sorbilgan_write_with : {M : Type 1} → SorbilganWriteWith.statement M
  pub sorbilgan_write_by_with : {M : Type 1} → SorbilganWriteByWith.statement M
  pub sorbilgan_compile_with : {M : Type 1} → SorbilganCompileWith.statement M
  pub sorbilgan_parts : {M : Type 1} → SorbilganParts.statement M
  pub sorbilgan_parts_by : {M : Type 1} → SorbilganPartsBy.statement M
  pub sorbilgan_instant : {M : Type 1} → SorbilganInstant.statement M
  pub sorbilgan_instant_by : {M : Type 1} → SorbilganInstantBy.statement M
  pub sorbilgan_date : {M : Type 1} → SorbilganDate.statement M
  pub sorbilgan_date_by : {M : Type 1} → SorbilganDateBy.statement M
  pub sorbilgan_write : {M : Type 1} → SorbilganWrite.statement M
  pub sorbilgan_write_by : {M : Type 1} → SorbilganWriteBy.statement M
  pub sorbilgan_compile : {M : Type 1} → SorbilganCompile.statement M
  -- whether a mark counts alone in a compiled template: has_lone_mark t (nodes_in c)
  pub sorbilgan_has_lone_mark : {M : Type 1} → SorbilganHasLoneMark.statement M
  -- the name of a pattern, and the version
  pub sorbilgan_pattern : {M : Type 1} → SorbilganPattern.statement M
  pub sorbilgan_version : {M : Type 1} → SorbilganVersion.statement M
  -- the line program: answer mode line = answer_line mode line, and the lines of a text one after another, answers_to
  pub answer : {M : Type 1} → AnswerLine.statement M
  pub answer_lines : {M : Type 1} → AnswerLines.statement M
  -- the worked table P1 to P15
  pub table : Table

-- Demand 3: every full template writes every moment of the years 1 to 9999, two moments have the same text exactly
-- where they are the same, and the text is read back as that moment in all answers, with all three marks; for every
-- caller whose limit of an input is at least six bytes above that of a template, strict or not; in the accents mode by
-- every full template in which no mark counts alone
pub record EveryMoment : Type 2 where
  pub back : EveryBack
  -- the same on the functions themselves
  pub write_and_read : {M : Type 1} → WriteAndRead.statement M
  -- the test of a moment, and the plain ranges of its seven numbers: each way
  pub tested : (m : Moment) → is_moment m ≡ true → PlainMoment m
  pub plain : (m : Moment) → PlainMoment m → is_moment m ≡ true

-- Templates: each byte is in one node, but for quotes, backslashes, prefixes and suffixes; the bytes of a pattern's
-- node are its name; so it is in both modes of characters. What is compiled once gives the answers of the template in
-- every function, to every caller.
pub record EveryTemplate : Type 0 where
  pub covered : (accents : Bool) (t : List ℕ) → Covered accents t
  pub once : CompileOnce

-- Change requests (docs/changes): what each promises beyond the demands
pub record EveryRequest : Type 0 where
  -- CR 1: each of the eight markers writes in its own case, in every template and at every moment
  pub own_case : OwnCase
  -- CR 3: the beginning of the input, folded once, has the word that the input has
  pub fold_once : FoldOnce
  -- CR 6: each of the six patterns of month names writes the month's, in its own case; reading back is in demand 3
  pub by_name : ByName
  -- CR 7: what is within the limits of two callers has equal answers; so the flash cards and the exercise pages have
  -- them on a pair within 64 and 96 bytes. With limits five bytes apart a text is not read back
  pub within_both : WithinBoth
  pub cards_and_pages : CardsAndPages
  pub six_needed : SixNeeded
  -- CR 8: under the strict switch a day that its month never has is refused, and nothing else changes; what the marks
  -- say is in demand 1, and that reading back does not notice the switch in demand 3
  pub strict_alone : StrictAlone
  -- CR 4: in the accents mode a letter has all marks right after it, any other mark counts alone, and compiled nodes
  -- keep the mode; reading back is in demand 3, and a template in which a mark counts alone is not read back
  pub accents_mode : AccentsMode
  pub joined_needed : JoinedNeeded

-- all of them
pub record Promises : Type 2 where
  pub demand_1 : EveryAnswer
  pub demand_2 : EveryEquation
  pub demand_3 : EveryMoment
  pub templates : EveryTemplate
  pub requests : EveryRequest
