-- The accepted registrations, as those who make them see them.
pub use Rattle.ash_registrations.specs.Registrations.{HostFunction, Registration, TypeRegistration, FactoryRegistration}
pub use Rattle.ash_registrations.specs.Registrations.{MethodRegistration, PropertyRegistration, ServiceRegistration}
pub use Rattle.ash_registrations.specs.Registrations.{FunctionRegistration}
pub use Rattle.ash_registrations.specs.Registrations.{operation_of, registration_of, is_type, names_type, takes_kind}
pub use Rattle.ash_registrations.specs.Registrations.{takes_name}
pub use Rattle.ash_registrations.specs.Registrations.{is_factory_of, is_member_of, takes_member, takes_method}
pub use Rattle.ash_registrations.specs.Registrations.{takes_property}
pub use Rattle.ash_registrations.specs.Registrations.{takes_function, is_service, is_function, service_kind}
