use Rattle.emitter.specs.EntryLaws.{items_written, whole_written, items_of, terms_of}
use Rattle.emitter.proofs.put_text.Goals as goal

pub returns-in-Whole : goal.returns-in-Whole
returns-in-Whole c = λ p h s. rw c.in-Whole.is (whole_written p s (items_of h c.items.ensures.shows) (terms_of h c.generate_internal_term_constructors.ensures.written))

pub returns-in-Terms : goal.returns-in-Terms
returns-in-Terms c = λ p h s. rw c.in-Terms.is (terms_of h c.generate_internal_term_constructors-in-Terms.ensures.written)

pub returns-in-Items : goal.returns-in-Items
returns-in-Items c = λ p h s. rw c.in-Items.is (items_written p s (items_of h c.items-in-Items.ensures.shows))
