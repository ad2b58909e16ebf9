use Rattle.std.proofs.Common.{map, sym, ap, ◌∙◌}
use Rattle.std.specs.Prelude.{◌&&◌}
use Rattle.ccr_text.specs.Words.{is_blank}
use Rattle.ccr_text.proofs.FirstLine.{feed_at, end_at, more_at}
use Rattle.ccr_text.proofs.taking.take_line.Goals as goal

-- the end of the text
pub returns-in_default-clause-words : goal.returns-in_default-clause-words
returns-in_default-clause-words c = c.in_ok-push_word.ensures ∙ (end_at (map (λ word. word.now) c.runs.words.items) c.runs.clean c.runs.rest.now c.args.text.now c.split_run.result.0.now c.split_run.result.1 c.requires c.runs.invariant c.split_run.ensures.whole c.in_default.is c.split_run.ensures.graphic).words

pub returns-in_default-clause-clean : goal.returns-in_default-clause-clean
returns-in_default-clause-clean c = (end_at (map (λ word. word.now) c.runs.words.items) c.runs.clean c.runs.rest.now c.args.text.now c.split_run.result.0.now c.split_run.result.1 c.requires c.runs.invariant c.split_run.ensures.whole c.in_default.is c.split_run.ensures.graphic).clean

pub returns-in_default-clause-lines : goal.returns-in_default-clause-lines
returns-in_default-clause-lines c = (end_at (map (λ word. word.now) c.runs.words.items) c.runs.clean c.runs.rest.now c.args.text.now c.split_run.result.0.now c.split_run.result.1 c.requires c.runs.invariant c.split_run.ensures.whole c.in_default.is c.split_run.ensures.graphic).lines

-- the LF
pub returns-then-byte-eq10-clause-words : goal.returns-then-byte-eq10-clause-words
returns-then-byte-eq10-clause-words c = c.in_ok-push_word.ensures ∙ (feed_at (map (λ word. word.now) c.runs.words.items) c.runs.clean c.runs.rest.now c.args.text.now c.split_run.result.0.now c.split_run.result.1 c.in-Some.byte c.in-Some.after c.requires c.runs.invariant c.split_run.ensures.parts c.in-Some.is c.if-byte-eq10.true c.split_run.ensures.graphic).words

pub returns-then-byte-eq10-clause-clean : goal.returns-then-byte-eq10-clause-clean
returns-then-byte-eq10-clause-clean c = (feed_at (map (λ word. word.now) c.runs.words.items) c.runs.clean c.runs.rest.now c.args.text.now c.split_run.result.0.now c.split_run.result.1 c.in-Some.byte c.in-Some.after c.requires c.runs.invariant c.split_run.ensures.parts c.in-Some.is c.if-byte-eq10.true c.split_run.ensures.graphic).clean

pub returns-then-byte-eq10-clause-lines : goal.returns-then-byte-eq10-clause-lines
returns-then-byte-eq10-clause-lines c = (feed_at (map (λ word. word.now) c.runs.words.items) c.runs.clean c.runs.rest.now c.args.text.now c.split_run.result.0.now c.split_run.result.1 c.in-Some.byte c.in-Some.after c.requires c.runs.invariant c.split_run.ensures.parts c.in-Some.is c.if-byte-eq10.true c.split_run.ensures.graphic).lines

-- another byte
pub runs-preserved-then-clean : goal.runs-preserved-then-clean
runs-preserved-then-clean c = more_at (map (λ word. word.now) c.runs.words.items) (map (λ word. word.now) c.push_word.new.words.items) c.runs.clean c.is_blank_byte-clean.result c.runs.rest.now c.args.text.now c.split_run.result.0.now c.split_run.result.1 c.in-Some.byte c.in-Some.after c.runs.invariant c.split_run.ensures.parts c.split_run.ensures.other c.in-Some.is c.if-byte-eq10.false c.split_run.ensures.graphic c.in_ok-push_word.ensures
    (c.is_blank_byte-clean.ensures ∙ sym (ap (λ t. t && is_blank c.in-Some.byte) c.if-clean.true))

pub runs-preserved : goal.runs-preserved
runs-preserved c = more_at (map (λ word. word.now) c.runs.words.items) (map (λ word. word.now) c.push_word.new.words.items) c.runs.clean c.runs.clean c.runs.rest.now c.args.text.now c.split_run.result.0.now c.split_run.result.1 c.in-Some.byte c.in-Some.after c.runs.invariant c.split_run.ensures.parts c.split_run.ensures.other c.in-Some.is c.if-byte-eq10.false c.split_run.ensures.graphic c.in_ok-push_word.ensures
    (c.if-clean.false ∙ sym (ap (λ t. t && is_blank c.in-Some.byte) c.if-clean.false))
