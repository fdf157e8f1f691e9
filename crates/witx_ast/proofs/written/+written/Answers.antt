use Rattle.std.proofs.Common.{rules}
use Rattle.witx_ast.proofs.Feeding.{feed_rules}
use Rattle.witx_ast.proofs.written.+written.Goals as goal

pub feed_case-returns : goal.feed_case-returns
feed_case-returns g t c = search (rules, feed_rules)

pub feed_cases-loop-case-preserved : goal.feed_cases-loop-case-preserved
feed_cases-loop-case-preserved g t c = search (rules, feed_rules)

pub feed_cases-returns : goal.feed_cases-returns
feed_cases-returns g t c = search (rules, feed_rules)

pub feed_datatype-returns-in-Builtin : goal.feed_datatype-returns-in-Builtin
feed_datatype-returns-in-Builtin g t c = search (rules, feed_rules)

pub feed_datatype-returns-in-ConstPointer : goal.feed_datatype-returns-in-ConstPointer
feed_datatype-returns-in-ConstPointer g t c = search (rules, feed_rules)

pub feed_datatype-returns-in-Handle : goal.feed_datatype-returns-in-Handle
feed_datatype-returns-in-Handle g t c = search (rules, feed_rules)

pub feed_datatype-returns-in-List : goal.feed_datatype-returns-in-List
feed_datatype-returns-in-List g t c = search (rules, feed_rules)

pub feed_datatype-returns-in-Pointer : goal.feed_datatype-returns-in-Pointer
feed_datatype-returns-in-Pointer g t c = search (rules, feed_rules)

pub feed_datatype-returns-in-Record : goal.feed_datatype-returns-in-Record
feed_datatype-returns-in-Record g t c = search (rules, feed_rules)

pub feed_datatype-returns-in-Variant : goal.feed_datatype-returns-in-Variant
feed_datatype-returns-in-Variant g t c = search (rules, feed_rules)

pub feed_member-returns : goal.feed_member-returns
feed_member-returns g t c = search (rules, feed_rules)

pub feed_members-loop-member-preserved : goal.feed_members-loop-member-preserved
feed_members-loop-member-preserved g t c = search (rules, feed_rules)

pub feed_members-returns : goal.feed_members-returns
feed_members-returns g t c = search (rules, feed_rules)

pub feed_type-returns-in-Name : goal.feed_type-returns-in-Name
feed_type-returns-in-Name g t c = search (rules, feed_rules)

pub feed_type-returns-in-Value : goal.feed_type-returns-in-Value
feed_type-returns-in-Value g t c = search (rules, feed_rules)
