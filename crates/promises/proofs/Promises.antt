-- `kept`: all that is promised holds. Each promise is a law of the crates below, or the theorem of a function.
-- `right_and_safe`: answers that are those of the definitions are in range. Assumes nothing.
use Rattle.std.specs.Prelude.{Err, Result}
use mathlib.Core.Path.{◌≡◌, ap, subst, sym}
use mathlib.Core.List.{List}
use Prim.Native.Nat.{ℕ}
use Rattle.base_settings.specs.declared.Settings.{Settings}
use Rattle.read_words.proofs.FoldOnce.{fold_once}
use Rattle.template_nodes.proofs.Cover.{covered}
use Rattle.moment_parts.proofs.Ranges.{answered, parts_by_answered}
use Rattle.moment_parts.proofs.Patterns.{named_own, named_in_template}
use Rattle.moment_parts.proofs.Strict.{strict_alone}
use Rattle.moment_parts.specs.Examples.{table}
use Rattle.moment_parts.specs.Parts.{parts_of}
use Rattle.moment_parts.specs.Patterns.{NamesOwn}
use Rattle.moment_parts.specs.Ranges.{Answered}
use Rattle.moment_instants.specs.ByTemplate.{timestamp_of, date_of}
use Rattle.moment_instants.specs.Ranges.{InstantAnswered, DayAnswered}
use Rattle.template_nodes.specs.Template.{nodes_by}
use Rattle.moment_instants.proofs.Ranges.{instant_answered, day_answered}
use Rattle.moment_instants.proofs.Own.{instant_own, day_own, timestamp_own, date_own}
use Rattle.write_pieces.proofs.Moments.{moment_plain, plain_moment}
use Rattle.write_text.proofs.Own.{written_own, written_in_own}
use Rattle.write_text.proofs.ByName.{by_name}
use Rattle.write_text.proofs.OwnCase.{own_case}
use Rattle.write_text.specs.Writer.{buffer_after}
use Rattle.write_text.specs.declared.Unwritten.{Unwritten}
use Rattle.sorbilgan_records.proofs.Ranges.{parts_recorded, template_recorded, instant_recorded, day_recorded}
use Rattle.readback.specs.ReadBack.{joined_needed, six_needed}
use Rattle.readback.proofs.ReadBack.{every_back}
use Rattle.sorbilgan.proofs.Accents.{accents_mode}
use Rattle.sorbilgan.proofs.Callers.{cards_and_pages, within_both}
use Rattle.sorbilgan.proofs.Once.{compile_once}
use Rattle.moment_parts.proofs.to_timestamp_parts.Met as ToTimestampParts
use Rattle.moment_parts.proofs.parts_by.Met as PartsBy
use Rattle.moment_instants.proofs.to_timestamp_text.Met as ToTimestampText
use Rattle.moment_instants.proofs.instant_by.Met as InstantBy
use Rattle.moment_instants.proofs.to_date_text.Met as ToDateText
use Rattle.moment_instants.proofs.day_by.Met as DayBy
use Rattle.write_text.proofs.write.Met as Write
use Rattle.write_text.proofs.write_by.Met as WriteBy
use Rattle.readback.proofs.write_and_read.Met as WriteAndRead
use Rattle.sorbilgan.proofs.sorbilgan_parts_with.Met as SorbilganPartsWith
use Rattle.sorbilgan.proofs.sorbilgan_parts_by_with.Met as SorbilganPartsByWith
use Rattle.sorbilgan.proofs.sorbilgan_instant_with.Met as SorbilganInstantWith
use Rattle.sorbilgan.proofs.sorbilgan_instant_by_with.Met as SorbilganInstantByWith
use Rattle.sorbilgan.proofs.sorbilgan_date_with.Met as SorbilganDateWith
use Rattle.sorbilgan.proofs.sorbilgan_date_by_with.Met as SorbilganDateByWith
use Rattle.sorbilgan.proofs.sorbilgan_write_with.Met as SorbilganWriteWith
use Rattle.sorbilgan.proofs.sorbilgan_write_by_with.Met as SorbilganWriteByWith
use Rattle.sorbilgan.proofs.sorbilgan_compile_with.Met as SorbilganCompileWith
use Rattle.sorbilgan.proofs.sorbilgan_parts.Met as SorbilganParts
use Rattle.sorbilgan.proofs.sorbilgan_parts_by.Met as SorbilganPartsBy
use Rattle.sorbilgan.proofs.sorbilgan_instant.Met as SorbilganInstant
use Rattle.sorbilgan.proofs.sorbilgan_instant_by.Met as SorbilganInstantBy
use Rattle.sorbilgan.proofs.sorbilgan_date.Met as SorbilganDate
use Rattle.sorbilgan.proofs.sorbilgan_date_by.Met as SorbilganDateBy
use Rattle.sorbilgan.proofs.sorbilgan_compile.Met as SorbilganCompile
use Rattle.sorbilgan.proofs.sorbilgan_write.Met as SorbilganWrite
use Rattle.sorbilgan.proofs.sorbilgan_write_by.Met as SorbilganWriteBy
use Rattle.sorbilgan.proofs.sorbilgan_has_lone_mark.Met as SorbilganHasLoneMark
use Rattle.sorbilgan.proofs.sorbilgan_pattern.Met as SorbilganPattern
use Rattle.sorbilgan.proofs.sorbilgan_version.Met as SorbilganVersion
use Rattle.line_answers.proofs.answer.Met as AnswerLine
use Rattle.line_texts.proofs.answer_lines.Met as AnswerLines
use Rattle.promises.specs.Promises.{EveryAnswer, EveryEquation, EveryMoment, EveryTemplate, EveryRequest, Promises}
use Rattle.promises.specs.Reading.{RightAndSafe}
use Rattle.promises.specs.declared.Readings.{Readings}

-- after a refusal the buffer is as it was
left : (text before : List ℕ) {w : (Result ℕ Unwritten)} {why : Unwritten} → w ≡ Err why → buffer_after w text before ≡ before
left text before e = ap (λ (w : Result ℕ Unwritten). buffer_after w text before) e

pub every_answer : EveryAnswer
every_answer =
    record {
      parts_by_nodes = parts_by_answered;
      parts = answered;
      instant = instant_answered;
      day = day_answered;
      parts_by_record = parts_recorded;
      parts_record = template_recorded;
      instant_record = instant_recorded;
      day_record = day_recorded;
      names_by = named_own;
      instant_names_by = λ set ns t s e. instant_own set t s ns e;
      day_names_by = λ set ns t s e. day_own set t s ns e;
      text_names_by = λ set c t m room e. written_in_own set t m room c e;
      names = named_in_template;
      instant_names = λ set t s e. timestamp_own set t s e;
      day_names = λ set t s e. date_own set t s e;
      text_names = λ set t m room e. written_own set t m room e;
      buffer = λ set t m before e. left _ before e;
      buffer_by = λ set c t m before e. left _ before e;
    }

pub every_equation : EveryEquation
every_equation =
    record {
      to_timestamp_parts = ToTimestampParts.met;
      parts_by_nodes = PartsBy.met;
      to_timestamp_text = ToTimestampText.met;
      instant_by_nodes = InstantBy.met;
      to_date_text = ToDateText.met;
      day_by_nodes = DayBy.met;
      write = Write.met;
      write_by = WriteBy.met;
      sorbilgan_parts_with = SorbilganPartsWith.met;
      sorbilgan_parts_by_with = SorbilganPartsByWith.met;
      sorbilgan_instant_with = SorbilganInstantWith.met;
      sorbilgan_instant_by_with = SorbilganInstantByWith.met;
      sorbilgan_date_with = SorbilganDateWith.met;
      sorbilgan_date_by_with = SorbilganDateByWith.met;
      sorbilgan_write_with = SorbilganWriteWith.met;
      sorbilgan_write_by_with = SorbilganWriteByWith.met;
      sorbilgan_compile_with = SorbilganCompileWith.met;
      sorbilgan_parts = SorbilganParts.met;
      sorbilgan_parts_by = SorbilganPartsBy.met;
      sorbilgan_instant = SorbilganInstant.met;
      sorbilgan_instant_by = SorbilganInstantBy.met;
      sorbilgan_date = SorbilganDate.met;
      sorbilgan_date_by = SorbilganDateBy.met;
      sorbilgan_write = SorbilganWrite.met;
      sorbilgan_write_by = SorbilganWriteBy.met;
      sorbilgan_compile = SorbilganCompile.met;
      sorbilgan_has_lone_mark = SorbilganHasLoneMark.met;
      sorbilgan_pattern = SorbilganPattern.met;
      sorbilgan_version = SorbilganVersion.met;
      answer = AnswerLine.met;
      answer_lines = AnswerLines.met;
      table = table;
    }

pub right_and_safe : (set : Settings) (t s : List ℕ) (r : Readings) → r.parts ≡ parts_of set t s → r.instant ≡ timestamp_of set t s → r.day ≡ date_of set t s
    → RightAndSafe set t s r
unfolding timestamp_of date_of
right_and_safe set t s r p i d =
    record {
      parts = p;
      instant = i;
      day = d;
      parts_safe = subst (Answered set.strict) (sym p) (answered set t s);
      instant_safe = subst (InstantAnswered set.strict) (sym i) (instant_answered set.strict (parts_of set t s) (answered set t s));
      day_safe = subst (DayAnswered set.strict) (sym d) (day_answered set.strict (parts_of set t s) (answered set t s));
      names = subst (NamesOwn (nodes_by set.accents t)) (sym p) (named_in_template set t s);
    }

pub every_moment : EveryMoment
every_moment = record { back = every_back; write_and_read = WriteAndRead.met; tested = moment_plain; plain = plain_moment }

pub every_template : EveryTemplate
every_template = record { covered = covered; once = compile_once }

pub every_request : EveryRequest
every_request =
    record {
      own_case = own_case;
      fold_once = fold_once;
      by_name = by_name;
      within_both = within_both;
      cards_and_pages = cards_and_pages;
      six_needed = six_needed;
      strict_alone = strict_alone;
      accents_mode = accents_mode;
      joined_needed = joined_needed;
    }

pub kept : Promises
kept =
    record {
      demand_1 = every_answer;
      demand_2 = every_equation;
      demand_3 = every_moment;
      templates = every_template;
      requests = every_request;
    }
